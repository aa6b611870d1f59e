use Rattle.std.proofs.lemmas.Result.{err_from_is_err_and}
use Rattle.manifest_accessors.proofs.AcceptedLaws.{accepted, refused-by}
use Rattle.translate.proofs.TranslateLaws.{refused_translation}
use Rattle.translate.proofs.translate.Goals as goal

pub returns-in_err-report : goal.returns-in_err-report
returns-in_err-report c =
    let p = err_from_is_err_and c.from_residual.result c.from_residual.ensures.1 in
    rw (p.1, p.2) (refused_translation _ _ _ _ c.args.room.now (refused-by _ _ c.in_err-report.ensures.0))

pub translate_checked-requires : goal.translate_checked-requires
translate_checked-requires c = accepted _ _ c.in_ok-report.ensures.0
