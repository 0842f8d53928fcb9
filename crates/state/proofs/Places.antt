-- The lent lists stay where they are, call after call. Assumes nothing.
use Rattle.std.proofs.Common.{refl, ◌∙◌}
use Rattle.state.specs.declared.lent.Memory.{Memory}
use Rattle.state.specs.Said.{SamePlaces}

pub same_places : (m : Memory) → SamePlaces m m
same_places m = record { inverse = refl; v0 = refl; edge_columns = refl; edge_weights = refl; block0 = refl; block1 = refl; block2 = refl; partials = refl; output = refl }

pub places_on : {a b c : Memory} → SamePlaces a b → SamePlaces b c → SamePlaces a c
places_on S T = record {
  inverse = T.inverse ∙ S.inverse;
  v0 = T.v0 ∙ S.v0;
  edge_columns = T.edge_columns ∙ S.edge_columns;
  edge_weights = T.edge_weights ∙ S.edge_weights;
  block0 = T.block0 ∙ S.block0;
  block1 = T.block1 ∙ S.block1;
  block2 = T.block2 ∙ S.block2;
  partials = T.partials ∙ S.partials;
  output = T.output ∙ S.output;
}
