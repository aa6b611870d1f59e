use mathlib.Core.Path.{sym, ◌∙◌}
use mathlib.Core.Logic.{⊎_elim}
use native.Mathlib.Omega.{arith}
use Rattle.rules.proofs.BytesLaws.{length_part}
use Rattle.rules_kinds.proofs.KindLaws.{sixteen-codes, parameter-codes, nil-codes, index-codes, alternative_codes, sequence-codes}
use Rattle.translate_argument.proofs.FillLaws.{filled_none}
use Rattle.translate_argument.proofs.ArgumentLaws.{sixteen-bytes, sixteen-filled, params-bytes, no_bytes}
use Rattle.translate_argument.proofs.put_argument.Goals as goal

pub copy-requires : goal.copy-requires
copy-requires c =
    let (_, _, v, _, l, _) = c.requires in
    let k = sixteen-codes _ (sym c.kind_of.ensures ∙ c.in-Sixteen.is) in
    let inside = v (⊎_elim (λ i. omega arith) (λ i. omega arith) k) in
    (inside, omega (arith, length_part c.args.s.now c.args.a.value 16 inside, rw (sixteen-bytes _ _ _ _ k) at l))

pub put_parameters-requires : goal.put_parameters-requires
put_parameters-requires c =
    let (w, f, _, _, l, _) = c.requires in
    (w, f, rw (params-bytes _ _ _ _ (parameter-codes _ (sym c.kind_of.ensures ∙ c.in-Parameters.is))) at l)

pub returns-in-Sixteen : goal.returns-in-Sixteen
returns-in-Sixteen c =
    let (_, _, v, _, l, _) = c.requires in
    let k = sixteen-codes _ (sym c.kind_of.ensures ∙ c.in-Sixteen.is) in
    sixteen-filled c.args.s.now _ c.args.a.value c.args.a.params k (v (⊎_elim (λ i. omega arith) (λ i. omega arith) k)) _ _ _ c.copy.ensures

pub returns-in-Parameters : goal.returns-in-Parameters
returns-in-Parameters c =
    rw (params-bytes _ _ _ _ (parameter-codes _ (sym c.kind_of.ensures ∙ c.in-Parameters.is))) c.put_parameters.ensures

pub returns-in-Nil : goal.returns-in-Nil
returns-in-Nil c =
    let e = sym c.kind_of.ensures in
    let (f, g) =
    ⊎_elim (λ i. nil-codes _ (e ∙ i))
    (⊎_elim (λ i. index-codes _ (e ∙ i)) (⊎_elim (λ i. alternative_codes _ (e ∙ i)) (λ i. sequence-codes _ (e ∙ i))))
    c.in-Nil.is in
    rw (no_bytes _ _ c.requires.3 f g) (filled_none _ _)
