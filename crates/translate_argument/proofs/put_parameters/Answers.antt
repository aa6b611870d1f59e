use native.Mathlib.Omega.{arith}
use Rattle.translate_argument.proofs.FillLaws.{filled-length}
use Rattle.translate_argument.proofs.ArgumentLaws.{params-length, params-filled}
use Rattle.translate_argument.proofs.put_parameters.Goals as goal

pub put_string-p-requires : goal.put_string-p-requires
put_string-p-requires c =
    let (w, f, l) = c.requires in
    (w.inside, w.short, omega (arith, l, params-length c.args.s.now c.args.a.params))

pub put_source-q-requires : goal.put_source-q-requires
put_source-q-requires c =
    let (w, f, l) = c.requires in
    (f.source, omega (arith, l, c.put_string-p.ensures.next, filled-length _ _ _ _ _ c.put_string-p.ensures, params-length c.args.s.now c.args.a.params))

pub put_string-r-requires : goal.put_string-r-requires
put_string-r-requires c =
    let (w, f, l) = c.requires in
    (f.digest, omega arith, omega (arith, l, c.put_string-p.ensures.next, c.put_source-q.ensures.next, filled-length _ _ _ _ _ c.put_string-p.ensures, filled-length _ _ _ _ _ c.put_source-q.ensures, params-length c.args.s.now c.args.a.params))

pub put_size-requires : goal.put_size-requires
put_size-requires c =
    let (w, f, l) = c.requires in
    omega (
      arith,
      l,
      c.put_string-p.ensures.next,
      c.put_source-q.ensures.next,
      c.put_string-r.ensures.next,
      filled-length _ _ _ _ _ c.put_string-p.ensures,
      filled-length _ _ _ _ _ c.put_source-q.ensures,
      filled-length _ _ _ _ _ c.put_string-r.ensures,
      params-length c.args.s.now c.args.a.params,
    )

pub returns : goal.returns
returns c =
    params-filled c.args.s.now c.args.a.params _ _ _ _ _ _ _ _ _ _
    c.put_string-p.ensures
    c.put_source-q.ensures
    c.put_string-r.ensures
    c.put_size.ensures
