use Rattle.scanning.proofs.Heads.{head-place, head-right, head-wrong}
use Rattle.scanning.proofs.read_head.Goals as goal

pub size_from-requires : goal.size_from-requires
size_from-requires c = head-place _ _ c.read_banner-banner.ensures c.if-banner.true

pub returns-then-banner : goal.returns-then-banner
returns-then-banner c = head-right _ _ c.read_banner-banner.ensures c.if-banner.true _ c.size_from.ensures

pub returns : goal.returns
returns c = head-wrong _ _ c.read_banner-banner.ensures c.if-banner.false
