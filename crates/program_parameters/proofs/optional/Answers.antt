use mathlib.Core.Path.{sym, ◌∙◌}
use native.Mathlib.Omega.{arith}
use Rattle.program_parameters.proofs.EntryLaws.{next-end, next-other, next-some, next-cut, next_low, next-high, next-long}
use Rattle.program_parameters.proofs.optional.Goals as goal
use Rattle.program_parameters.proofs.optional.Goals.{then-at-to-via-then-at-to, then-at-to-via-else-at-to+then-wide-key, then-n-lo-via-then-n-lo, then-n-lo-via-else-n-lo+then-hi-n, then-n-lo-via-else-n-lo+else-hi-n+then-room-n}

pub returns-then-at-to : goal.returns-then-at-to
returns-then-at-to c =
    elim c.then-at-to.branch [
      | then-at-to-via-then-at-to w ↦ next-end _ _ _ _ _ _ (omega arith) (omega arith) w.if-at-to.true
      | then-at-to-via-else-at-to+then-wide-key w ↦ next-other _ _ _ _ _ _ (omega arith) (omega arith) (omega arith) (λ e. w.if-wide-key.true (w.wide.ensures.0 ∙ e))
    ]

pub returns-then-left-lt-ENTRY_BYTES : goal.returns-then-left-lt-ENTRY_BYTES
returns-then-left-lt-ENTRY_BYTES c =
    next-cut c.args.p.now c.args.at c.args.to c.args.key c.args.lo c.args.hi (omega arith) (omega arith) (omega arith)
    (sym c.wide.ensures.0 ∙ c.if-wide-key.false) (omega arith)

pub returns-then-room-lo : goal.returns-then-room-lo
returns-then-room-lo c =
    next-cut c.args.p.now c.args.at c.args.to c.args.key c.args.lo c.args.hi (omega arith) (omega arith) (omega arith)
    (sym c.wide.ensures.0 ∙ c.if-wide-key.false) (omega arith)

pub returns-then-n-lo : goal.returns-then-n-lo
returns-then-n-lo c =
    let k = sym c.wide.ensures.0 ∙ c.if-wide-key.false in
    elim c.then-n-lo.branch [
      | then-n-lo-via-then-n-lo w ↦ next_low c.args.p.now c.args.at c.args.to c.args.key c.args.lo c.args.hi (omega arith) (omega arith) (omega arith) k (omega arith)
      | then-n-lo-via-else-n-lo+then-hi-n w ↦
          next-high c.args.p.now c.args.at c.args.to c.args.key c.args.lo c.args.hi (omega arith) (omega arith) (omega arith) k (omega arith) (omega arith)
      | then-n-lo-via-else-n-lo+else-hi-n+then-room-n w ↦
          next-long c.args.p.now c.args.at c.args.to c.args.key c.args.lo c.args.hi (omega arith) (omega arith) (omega arith) k (omega arith) (omega arith) (omega arith)
    ]

pub returns : goal.returns
returns c =
    next-some _ _ _ _ _ _ (omega arith) (omega arith) _ c.wide-n.ensures.0 (omega arith)
    (sym c.wide.ensures.0 ∙ c.if-wide-key.false)
    (omega arith) (omega arith) (omega arith)
