use native.Mathlib.Omega.{arith}
use borrow.Author.Rules.{rules}
use Rattle.cbor_reading.proofs.ReadingLaws.{handed}
use Rattle.check_manifest.proofs.ManifestLaws.{manifest_no_front, manifest_no_common, manifest-bad, manifest-good, front-entries}
use Rattle.check_manifest.proofs.read_body.Goals as goal

pub returns-in_err-f : goal.returns-in_err-f
returns-in_err-f c = rw (handed _ _ c.from_residual.ensures.1) (manifest_no_front _ _ _ _ c.in_err-f.ensures)

pub common_weight-weight-requires : goal.common_weight-weight-requires
common_weight-weight-requires c = omega (arith, (front-entries _ _ _ _ c.in_ok-f.ensures).1)

pub read_common-requires : goal.read_common-requires
read_common-requires c = (search rules, search rules, c.common_weight-weight.ensures.1)

pub returns-in_err-c : goal.returns-in_err-c
returns-in_err-c c =
    rw (handed _ _ c.from_residual-in_err-c.ensures.1)
    (manifest_no_common _ _ _ _ c.in_ok-f.ensures _ c.common_weight-weight.ensures.0 _ c.in_err-c.ensures.0)

pub overflow_sub-left : goal.overflow_sub-left
overflow_sub-left c = omega (arith, (front-entries _ _ _ _ c.in_ok-f.ensures).0)

pub returns-in_err-r : goal.returns-in_err-r
returns-in_err-r c =
    rw (handed _ _ c.from_residual-in_err-r.ensures.1)
    (manifest-bad _ _ _ _ c.in_ok-f.ensures _ c.common_weight-weight.ensures.0 _ _ _ c.in_ok-c.ensures _ c.in_err-r.ensures.0)

pub returns : goal.returns
returns c = manifest-good _ _ _ _ c.in_ok-f.ensures _ c.common_weight-weight.ensures.0 _ _ _ c.in_ok-c.ensures _ _ c.in_ok-r.ensures
