use mathlib.Core.Path.{sym, ◌∙◌}
use native.Mathlib.Omega.{arith}
use Rattle.std.proofs.lemmas.Result.{err_from_is_err_and}
use Rattle.reading.proofs.Rest.{refused_as, one_inside, d-right, d-wrong, rounds-right, rounds-wrong, degree-right, degree-wrong, seed-right, seed-wrong}
use Rattle.reading.proofs.read_head.Goals as goal

pub returns-in_err-d : goal.returns-in_err-d
returns-in_err-d c =
    let p = err_from_is_err_and c.from_residual.result c.from_residual.ensures.1 in
    let q = refused_as _ 1 _ c.in_err-d.ensures.value in
    rw (p.1, p.2, q.1) (record {
      is = d-wrong _ (sym c.read_one.ensures ∙ q.0);
      inside = omega arith;
    })

pub read_one-requires-2 : goal.read_one-requires-2
read_one-requires-2 c = (
  record {
    small = c.requires;
    inside = one_inside 0 (omega arith) _ _ _ _ (sym c.read_one.ensures ∙ c.in_ok-d.ensures.ok_part);
  },
  omega arith,
)

pub returns-in_err-rounds : goal.returns-in_err-rounds
returns-in_err-rounds c =
    let p = err_from_is_err_and c.from_residual-in_err-rounds.result c.from_residual-in_err-rounds.ensures.1 in
    let q = refused_as _ 2 _ c.in_err-rounds.ensures.value in
    rw (p.1, p.2, q.1) (record {
      is = d-right _ _ _ (sym c.read_one.ensures ∙ c.in_ok-d.ensures.ok_part)
          ∙ rounds-wrong _ _ _ (sym c.read_one-2.ensures ∙ q.0);
      inside = omega arith;
    })

pub read_one-requires-3 : goal.read_one-requires-3
read_one-requires-3 c = (
  record {
    small = c.requires;
    inside = one_inside 1 (omega arith) _ _ _ _ (sym c.read_one-2.ensures ∙ c.in_ok-rounds.ensures.ok_part);
  },
  omega arith,
)

pub returns-in_err-degree : goal.returns-in_err-degree
returns-in_err-degree c =
    let p = err_from_is_err_and c.from_residual-in_err-degree.result c.from_residual-in_err-degree.ensures.1 in
    let q = refused_as _ 3 _ c.in_err-degree.ensures.value in
    rw (p.1, p.2, q.1) (record {
      is = d-right _ _ _ (sym c.read_one.ensures ∙ c.in_ok-d.ensures.ok_part)
          ∙ rounds-right _ _ _ _ _ (sym c.read_one-2.ensures ∙ c.in_ok-rounds.ensures.ok_part)
          ∙ degree-wrong _ _ _ _ (sym c.read_one-3.ensures ∙ q.0);
      inside = omega arith;
    })

pub read_one-requires-4 : goal.read_one-requires-4
read_one-requires-4 c = (
  record {
    small = c.requires;
    inside = one_inside 2 (omega arith) _ _ _ _ (sym c.read_one-3.ensures ∙ c.in_ok-degree.ensures.ok_part);
  },
  omega arith,
)

pub returns-in_err-seed : goal.returns-in_err-seed
returns-in_err-seed c =
    let p = err_from_is_err_and c.from_residual-in_err-seed.result c.from_residual-in_err-seed.ensures.1 in
    let q = refused_as _ 4 _ c.in_err-seed.ensures.value in
    rw (p.1, p.2, q.1) (record {
      is = d-right _ _ _ (sym c.read_one.ensures ∙ c.in_ok-d.ensures.ok_part)
          ∙ rounds-right _ _ _ _ _ (sym c.read_one-2.ensures ∙ c.in_ok-rounds.ensures.ok_part)
          ∙ degree-right _ _ _ _ _ _ (sym c.read_one-3.ensures ∙ c.in_ok-degree.ensures.ok_part)
          ∙ seed-wrong _ _ _ _ _ (sym c.read_one-4.ensures ∙ q.0);
      inside = omega arith;
    })

pub returns : goal.returns
returns c = record {
  is = d-right _ _ _ (sym c.read_one.ensures ∙ c.in_ok-d.ensures.ok_part)
      ∙ rounds-right _ _ _ _ _ (sym c.read_one-2.ensures ∙ c.in_ok-rounds.ensures.ok_part)
      ∙ degree-right _ _ _ _ _ _ (sym c.read_one-3.ensures ∙ c.in_ok-degree.ensures.ok_part)
      ∙ seed-right _ _ _ _ _ _ _ (sym c.read_one-4.ensures ∙ c.in_ok-seed.ensures.ok_part);
  inside = one_inside 3 (omega arith) _ _ _ _ (sym c.read_one-4.ensures ∙ c.in_ok-seed.ensures.ok_part);
}
