-- Arguments, read by their places, end where the rules of check end them.
use Prim.Native.Nat.{ℕ, zero, suc, ◌+◌, ◌≤◌, ◌<◌}
use mathlib.Core.Path.{◌≡◌, refl, sym, ap, ◌∙◌}
use native.Mathlib.Omega.{arith}
use mathlib.Core.Logic.{◌⊎◌, inl, inr}
use mathlib.Core.Option.{Option, some, none}
use lib.Dec.{ltb, leb}
use borrow.Author.Tests.{le-leb, lt-leb, le-ltb, lt-ltb}
use Rattle.rules.specs.declared.tables.Argument.{Argument}
use Rattle.rules.specs.declared.tables.Argument.TheVariants.{Sixteen, Nil, Index, Alternatives, Parameters, Sequence}
use Rattle.rules.specs.declared.tables.Parameter.{Parameter}
use Rattle.rules.specs.declared.tables.Parameter.TheVariants.{Coerce, Uri, Source, Digest, Size}
use Rattle.rules.specs.declared.answers.Refusal.TheVariants.{Malformed, NoSuchComponent, UnknownParameter}
use Rattle.std.specs.Prelude.{Some, None, Result, Err}
use Rattle.rules.specs.Tables.{known}
use Rattle.rules.specs.Limits.{limits}
use Rattle.rules.specs.Bytes.{Bytes}
use Rattle.rules.specs.Got.{Got, refused, got, need, found, ◌>>=◌}
use Rattle.rules.specs.Cbor.{NUMBER, BYTES, TEXT, ARRAY, MAP, FALSE, TRUE, NIL, Head, item, one_of}
use Rattle.rules.specs.Cbor as Cbor
use Rattle.rules.specs.Commands.{params, param_of}
use Rattle.rules.specs.Check.{Given, give, nothing, number, parameter, entries}
use Rattle.rules.proofs.GotLaws.{passed, split, split₂, both}
use Rattle.rules.proofs.CheckLaws.{bytes_after, text-after, item_law, one_of_law, number_law}
use Rattle.cbor_reading.specs.Reading.{fault, ends, view, head_reading, item_reading, reading, after, unnumbered}
use Rattle.rules.specs.declared.answers.Fault.{Fault}
use Rattle.cbor_reading.specs.declared.Reading.{Reading}
use Rattle.check_argument.specs.Argument.{argument_start}

-- what was read, given on with the place after it
given-on : {A B : Type 0} (f : B → ℕ) (g : A → B) (p : A → ℕ) (x : Got A) → view p (λ a. f (g a)) x ≡ reading f (x >>= λ a. got (g a, p a))
given-on f g p (refused r q) = refl
given-on f g p (got a) = refl

placed : {A : Type 0} (p v : A → ℕ) (x : Got A) → unnumbered (view p v x) ≡ view p (λ a. 0) x
placed p v (refused r q) = refl
placed p v (got a) = refl

-- a number is its item's
pub number-reading : (s : Bytes) (e at : ℕ) → head_reading (item NUMBER 0 limits.largest s e at) ≡ reading (λ k. k) (number s e at)
unfolding number
number-reading s e at = given-on (λ k. k) (λ h. h.num) (λ h. h.next) (item NUMBER 0 limits.largest s e at)

-- a string ends after its bytes
pub string-end : (h : Head) → (h.kind ≡ BYTES) ⊎ (h.kind ≡ TEXT) → ends (h.next + h.num) 0 ≡ item_reading (got h)
string-end h (inl k) = ap (λ (p : ℕ). ends p 0) (sym (bytes_after h k))
string-end h (inr k) = ap (λ (p : ℕ). ends p 0) (sym (text-after h k))

-- a parameter, by its kind
module _ (s : Bytes) (n e at : ℕ) (r : Result Reading Fault) where
  pub parameter-coerce : r ≡ head_reading (one_of FALSE TRUE s e at) → unnumbered r ≡ after (parameter s n Coerce e at)
  unfolding parameter
  parameter-coerce q = ap unnumbered q ∙ placed _ _ (one_of FALSE TRUE s e at) ∙ given-on (λ g. 0) _ (λ h. h.next) (one_of FALSE TRUE s e at)

  pub parameter-uri : r ≡ item_reading (item TEXT 1 limits.uri s e at) → r ≡ after (parameter s n Uri e at)
  unfolding parameter
  parameter-uri q = q ∙ given-on (λ g. 0) _ Cbor.after (item TEXT 1 limits.uri s e at)

  pub parameter-digest : r ≡ item_reading (item BYTES limits.digest limits.digest s e at) → r ≡ after (parameter s n Digest e at)
  unfolding parameter
  parameter-digest q = q ∙ given-on (λ g. 0) _ Cbor.after (item BYTES limits.digest limits.digest s e at)

  pub parameter-size : r ≡ reading (λ k. k) (number s e at) → unnumbered r ≡ after (parameter s n Size e at)
  unfolding parameter
  parameter-size q = ap unnumbered q ∙ placed _ _ (number s e at) ∙ given-on (λ g. 0) _ (λ a. a.1) (number s e at)

-- the index of a component, by the number that was read
module _ (s : Bytes) (n e at k p : ℕ) (q : number s e at ≡ got (k, p)) where
  pub index_large : n ≤ k → fault NoSuchComponent at ≡ after (parameter s n Source e at)
  unfolding parameter
  index_large l = rw (q, le-ltb k n l)

  pub index_below : k < n → ends p 0 ≡ after (parameter s n Source e at)
  unfolding parameter
  index_below l = rw (q, lt-ltb k n l)

pub index_stop : (s : Bytes) (n e at : ℕ) (f : Fault) → number s e at ≡ refused f.refusal f.at → Err f ≡ after (parameter s n Source e at)
unfolding parameter
index_stop s n e at f x = rw x

-- what a look-up of a parameter found
pub known_some : (o : Option Parameter) (p : Parameter) → known o ≡ Some p → o ≡ some p
known_some none p e = let z : ◌≡◌ {A = ℕ} 0 1 = cc in absurd (omega arith)
known_some (some q) p e = let f : q ≡ p = cc in ap some f

pub known-none : (o : Option Parameter) → known o ≡ None → o ≡ none
known-none none e = refl
known-none (some q) e = let z : ◌≡◌ {A = ℕ} 0 1 = cc in absurd (omega arith)

-- where the entries end does not hang on what was given before
after_alike : {A B : Type 0} (x : Got A) (f g : A → Got (B × ℕ)) → ((a : A) → after (f a) ≡ after (g a)) → after (x >>= f) ≡ after (x >>= g)
after_alike (refused r p) f g h = refl
after_alike (got a) f g h = h a

entries_any : (s : Bytes) (n k low : ℕ) (g g' : Given) (e at : ℕ) → after (entries s n k low g e at) ≡ after (entries s n k low g' e at)
unfolding entries
entries_any s n zero low g g' e at = refl
entries_any s n (suc k) low g g' e at =
    after_alike (number s e at) _ _ λ a.
    after_alike (need (leb low a.0) Malformed at) _ _ λ u.
    after_alike (found (param_of a.0 params) UnknownParameter at) _ _ λ what.
    after_alike (parameter s n what e a.1) _ _ λ v. entries_any s n k (a.0 + 1) _ _ e v.1

-- the entries of a set or override, one turn after the other
module _ (s : Bytes) (n k low e at : ℕ) where
  abbrev All : Result Reading Fault
  All = after (entries s n k low nothing e at)

  pub entries_none : k ≡ 0 → ends at 0 ≡ All
  unfolding entries
  entries_none z = rw z

  module _ (j : ℕ) (h : k ≡ suc j) where
    pub entries_stop : (f : Fault) → number s e at ≡ refused f.refusal f.at → Err f ≡ All
    unfolding entries
    entries_stop f x = rw (h, x)

    module _ (name p : ℕ) (q : number s e at ≡ got (name, p)) where
      pub entries-low : name < low → fault Malformed at ≡ All
      unfolding entries
      entries-low l = rw (h, q, lt-leb _ _ l)

      module _ (l : low ≤ name) where
        pub entries_unknown : param_of name params ≡ none → fault UnknownParameter at ≡ All
        unfolding entries
        entries_unknown u = rw (h, q, le-leb _ _ l, u)

        module _ (what : Parameter) (u : param_of name params ≡ some what) where
          pub entries-bad : (f : Fault) → parameter s n what e p ≡ refused f.refusal f.at → Err f ≡ All
          unfolding entries
          entries-bad f x = rw (h, q, le-leb _ _ l, u, x)

          pub entries-more : (v : Given) (next : ℕ) → parameter s n what e p ≡ got (v, next) → All ≡ after (entries s n j (name + 1) nothing e next)
          unfolding entries
          entries-more v next w = rw (h, q, le-leb _ _ l, u, w) (entries_any s n j (name + 1) _ nothing e next)

-- an argument, by its kind
module _ (s : Bytes) (n e at : ℕ) (r : Result Reading Fault) where
  pub argument-sixteen : r ≡ item_reading (item BYTES limits.class limits.class s e at) → r ≡ reading (λ k. k) (argument_start s n Sixteen e at)
  unfolding argument_start
  argument-sixteen q = q ∙ given-on (λ k. k) (λ h. 0) Cbor.after (item BYTES limits.class limits.class s e at)

  pub argument-nil : r ≡ head_reading (item NIL 0 0 s e at) → unnumbered r ≡ reading (λ k. k) (argument_start s n Nil e at)
  unfolding argument_start
  argument-nil q = ap unnumbered q ∙ placed _ _ (item NIL 0 0 s e at) ∙ given-on (λ k. k) (λ h. 0) (λ h. h.next) (item NIL 0 0 s e at)

  pub argument-index : r ≡ after (parameter s n Source e at) → r ≡ reading (λ k. k) (argument_start s n Index e at)
  unfolding argument_start parameter
  argument-index q = q ∙ go (number s e at)
    where
      go : (x : Got (ℕ × ℕ)) →
          after (x >>= λ a. need (ltb a.0 n) NoSuchComponent at >>= λ _. got (give none none (some a.0) none none, a.1))
          ≡ reading (λ k. k) (x >>= λ a. need (ltb a.0 n) NoSuchComponent at >>= λ _. got (0, a.1))
      go (refused k p) = refl
      go (got a) =
          let t = need (ltb a.0 n) NoSuchComponent at in
          sym (given-on (λ g. 0) (λ _. give none none (some a.0) none none) (λ _. a.1) t) ∙ given-on (λ k. k) (λ _. 0) (λ _. a.1) t

  pub argument-alternatives : r ≡ head_reading (item ARRAY 1 limits.alternatives s e at) → r ≡ reading (λ k. k) (argument_start s n Alternatives e at)
  unfolding argument_start
  argument-alternatives q = q ∙ given-on (λ k. k) (λ h. h.num) (λ h. h.next) (item ARRAY 1 limits.alternatives s e at)

  pub argument-parameters : (h : Head) → item MAP 1 limits.parameters s e at ≡ got h → r ≡ after (entries s n h.num 0 nothing e h.next) →
      r ≡ reading (λ k. k) (argument_start s n Parameters e at)
  unfolding argument_start
  argument-parameters h q x = rw q (x ∙ given-on (λ k. k) (λ a. 0) (λ a. a.1) (entries s n h.num 0 nothing e h.next))

pub argument_no_map : (s : Bytes) (n e at : ℕ) (f : Fault) → item MAP 1 limits.parameters s e at ≡ refused f.refusal f.at →
    Err f ≡ reading (λ k. k) (argument_start s n Parameters e at)
unfolding argument_start
argument_no_map s n e at f x = rw x

pub argument-sequence : (s : Bytes) (n e at : ℕ) → ends at 1 ≡ reading (λ k. k) (argument_start s n Sequence e at)
unfolding argument_start
argument-sequence s n e at = refl

-- the place after an argument is not before it
module _ (s : Bytes) (n : ℕ) where
  parameter_forth : (what : Parameter) (e at : ℕ) (v : Given) (q : ℕ) → parameter s n what e at ≡ got (v, q) → at ≤ q
  unfolding parameter
  parameter_forth Coerce e at v q g =
      split _ (one_of FALSE TRUE s e at) _ (v, q) g λ h qh g'. omega (arith, (both g').1, (one_of_law s FALSE TRUE e at h qh).0)
  parameter_forth Uri e at v q g =
      split _ (item TEXT 1 limits.uri s e at) _ (v, q) g λ h qh g'. let i = item_law s TEXT 1 limits.uri e at h qh in omega (arith, (both g').1, i.up, i.mid)
  parameter_forth Source e at v q g =
      split₂ _ (number s e at) _ (v, q) g λ k next qn g'.
      omega (arith, (both (passed (ltb k n) NoSuchComponent at _ (v, q) g').1).1, (number_law s e at k next qn).0)
  parameter_forth Digest e at v q g =
      split _ (item BYTES limits.digest limits.digest s e at) _ (v, q) g λ h qh g'.
      let i = item_law s BYTES limits.digest limits.digest e at h qh in omega (arith, (both g').1, i.up, i.mid)
  parameter_forth Size e at v q g = split₂ _ (number s e at) _ (v, q) g λ k next qn g'. omega (arith, (both g').1, (number_law s e at k next qn).0)

  entries_forth : (k low : ℕ) (g : Given) (e at : ℕ) (v : Given) (q : ℕ) → entries s n k low g e at ≡ got (v, q) → at ≤ q
  unfolding entries
  entries_forth zero low g e at v q w = omega (arith, (both w).1)
  entries_forth (suc k) low g e at v q w =
      split₂ _ (number s e at) _ (v, q) w λ name p qn w₁.
      let (_, w₂) = passed (leb low name) Malformed at _ (v, q) w₁ in
      split _ (found (param_of name params) UnknownParameter at) _ (v, q) w₂ λ what qf w₃.
      split₂ _ (parameter s n what e p) _ (v, q) w₃ λ x p' qp w₄.
      omega (arith, (number_law s e at name p qn).0, parameter_forth what e p x p' qp, entries_forth k (name + 1) _ e p' v q w₄)

  pub argument_forth : (kind : Argument) (e at k q : ℕ) → argument_start s n kind e at ≡ got (k, q) → at ≤ q
  unfolding argument_start
  argument_forth Sixteen e at k q g =
      split _ (item BYTES limits.class limits.class s e at) _ (k, q) g λ h qh g'.
      let i = item_law s BYTES limits.class limits.class e at h qh in omega (arith, (both g').1, i.up, i.mid)
  argument_forth Nil e at k q g = split _ (item NIL 0 0 s e at) _ (k, q) g λ h qh g'. omega (arith, (both g').1, (item_law s NIL 0 0 e at h qh).up)
  argument_forth Index e at k q g =
      split₂ _ (number s e at) _ (k, q) g λ i next qn g'.
      omega (arith, (both (passed (ltb i n) NoSuchComponent at _ (k, q) g').1).1, (number_law s e at i next qn).0)
  argument_forth Alternatives e at k q g =
      split _ (item ARRAY 1 limits.alternatives s e at) _ (k, q) g λ h qh g'. omega (arith, (both g').1, (item_law s ARRAY 1 limits.alternatives e at h qh).up)
  argument_forth Parameters e at k q g =
      split _ (item MAP 1 limits.parameters s e at) _ (k, q) g λ h qh g'.
      split₂ _ (entries s n h.num 0 nothing e h.next) _ (k, q) g' λ v next qe g''.
      omega (arith, (both g'').1, (item_law s MAP 1 limits.parameters e at h qh).up, entries_forth h.num 0 nothing e h.next v next qe)
  argument_forth Sequence e at k q g = omega (arith, (both g).1)
