use mathlib.Core.Path.{sym}
use native.Mathlib.Omega.{arith}
use Rattle.rules.proofs.CborLaws.{head_past, head_negative, head-high, head-short, head_flag}
use Rattle.cbor_heads.proofs.read_head.Goals as goal

pub returns-then-end-at : goal.returns-then-end-at
returns-then-end-at c = sym (head_past _ _ _ (omega arith))

pub returns-in-0-to-23 : goal.returns-in-0-to-23
returns-in-0-to-23 c = sym (head-short _ _ _ _ _ _ (λ q. omega arith) (omega arith))

pub returns-in-64-to-191 : goal.returns-in-64-to-191
returns-in-64-to-191 c = sym (head-short _ _ _ _ _ _ (λ q. omega arith) (omega arith))

pub returns-in-244-to-246 : goal.returns-in-244-to-246
returns-in-244-to-246 c = sym (head_flag _ _ _ _ _ (omega arith))

pub returns-in_default-2 : goal.returns-in_default-2
returns-in_default-2 c = sym (head_negative _ _ _ (omega arith))

pub returns-in_default-2-2 : goal.returns-in_default-2-2
returns-in_default-2-2 c = sym (head-high _ _ _ (omega arith) (λ l u. omega arith))

pub returns-in_default-2-3 : goal.returns-in_default-2-3
returns-in_default-2-3 c = sym (head-high _ _ _ (omega arith) (λ l u. omega arith))
