use Rattle.rules.specs.declared.answers.Refusal.TheVariants.{NotCbor, NotVerified}
use Rattle.rules.specs.Answers.{refusal_number}
use Rattle.text.proofs.TextLaws.{wrote_then}
use Rattle.depot_refusals.specs.Refusals.{refused_text}
use borrow.Author.Tests.{lt-ltb, le-ltb}
use Rattle.depot_refusals.proofs.put_refused.Goals as goal
use Rattle.depot_refusals.proofs.put_refused.Goals.{else-number-ge-NOT_CBOR-via-then-number-ge-NOT_CBOR+else-number-lt-NOT_VERIFIED, else-number-ge-NOT_CBOR-via-else-number-ge-NOT_CBOR}

pub returns-then-number-lt-NOT_VERIFIED : goal.returns-then-number-lt-NOT_VERIFIED
unfolding refused_text
returns-then-number-lt-NOT_VERIFIED c =
    rw (le-ltb _ (refusal_number NotCbor) c.if-number-ge-NOT_CBOR.true, lt-ltb _ (refusal_number NotVerified) c.if-number-lt-NOT_VERIFIED.true)
    (wrote_then (wrote_then c.put_refused_line-to.ensures c.put_path_line-a.ensures) c.put_around.ensures)

pub returns : goal.returns
unfolding refused_text
returns c =
    elim c.else-number-ge-NOT_CBOR.branch [
      | else-number-ge-NOT_CBOR-via-then-number-ge-NOT_CBOR+else-number-lt-NOT_VERIFIED w ↦
          rw (le-ltb _ (refusal_number NotCbor) w.if-number-ge-NOT_CBOR.true, le-ltb _ (refusal_number NotVerified) w.if-number-lt-NOT_VERIFIED.false)
          c.put_refused_line-to.ensures
      | else-number-ge-NOT_CBOR-via-else-number-ge-NOT_CBOR w ↦
          rw (lt-ltb _ (refusal_number NotCbor) w.if-number-ge-NOT_CBOR.false) c.put_refused_line-to.ensures
    ]
