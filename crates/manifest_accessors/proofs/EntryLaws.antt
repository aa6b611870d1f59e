-- What an accepted parameter tells of the bytes at its place, and what putting it over others means.
use Prim.Native.Nat.{ℕ, zero, suc, ◌+◌, ◌-◌, ◌≤◌, ◌<◌}
use mathlib.Core.Path.{◌≡◌, refl, sym, subst, ◌∙◌}
use mathlib.Core.List.{List, [], ◌∷◌}
use mathlib.Core.Bool.{Bool, true, false, cond}
use mathlib.Core.Logic.{◌⊎◌, inl, inr}
use mathlib.Core.Option.{some, none}
use native.Mathlib.Omega.{arith}
use lib.Dec.{ltb, leb, eqb}
use lib.ListN.{length, get_or}
use borrow.Author.Tests.{ltb-true, eqb-true, ne_eqb}
use Rattle.rules.specs.declared.tables.Parameter.{Parameter}
use Rattle.rules.specs.declared.tables.Parameter.TheVariants.{Coerce, Uri, Source, Digest, Size}
use Rattle.rules.specs.declared.answers.Refusal.TheVariants.{Malformed, NoSuchComponent, UnknownParameter}
use Rattle.rules.specs.Limits.{limits}
use Rattle.rules.specs.Bytes.{Bytes, part}
use Rattle.rules.specs.Got.{got, found}
use Rattle.rules.specs.Cbor.{BYTES, TEXT, FALSE, TRUE, Head, item, one_of}
use Rattle.rules.specs.Commands.{ParamRow, params, param_of, coerce_key, uri_key, source_key, digest_key}
use Rattle.rules.specs.Check.{Given, give, nothing, over_given, number, parameter, entries}
use Rattle.rules.proofs.GotLaws.{passed, both, split, split₂, found-is}
use Rattle.rules.proofs.TableLaws.{◌&◌}
use Rattle.rules.proofs.CheckLaws.{item_law, number_law, one_of-kind, bytes_after, text-after}
use Rattle.manifest_accessors.specs.declared.arguments.Args.{Args}
use Rattle.run_slots.specs.Params.{meaning, Fit}
use Rattle.manifest_accessors.specs.Heads.{HeadAt}
use Rattle.manifest_accessors.specs.Arguments.{coerce_true, coerce_false, coerce_of, true_byte, flag_of, given_of, Within, bare_at, EntryAt, EntryPut}
use Rattle.manifest_accessors.proofs.HeadLaws.{one_of-whole, item-headed, number-headed, flag_at}

-- what holds of each parameter and its key holds of the parameter of a key
abbrev Each : (ℕ → Parameter → Type 0) → List ParamRow → Type 0
Each P [] = Unit {0}
Each P (r ∷ rs) = P r.number r.param × Each P rs

param_of_lem : (P : ℕ → Parameter → Type 0) (rs : List ParamRow) (k : ℕ) (x : Parameter) → Each P rs → param_of k rs ≡ some x → P k x
param_of_lem P [] k x t e = let z : ◌≡◌ {A = ℕ} 0 1 = cc in absurd (omega arith)
param_of_lem P (r ∷ rs) k x t e = go (eqb k r.number) refl (param_of_lem P rs k x t.1) e
  where
    go : (b : Bool) → eqb k r.number ≡ b → (param_of k rs ≡ some x → P k x) → elim b [ true ↦ some r.param | false ↦ param_of k rs ] ≡ some x → P k x
    go true h next q =
        let same : r.param ≡ x = cc in
        subst (λ (y : Parameter). P k y) same (subst (λ (j : ℕ). P j r.param) (sym (eqb-true k r.number h)) t.0)
    go false h next q = next q

-- a parameter's value by the head at its place
module _ (s : Bytes) (n e at : ℕ) (f : e ≤ length s) (v : Given) (q : ℕ) where
  coerce-read : parameter s n Coerce e at ≡ got (v, q) → (at < length s) × (q ≡ at + 1) × (v ≡ give (some (eqb (get_or s at 0) true_byte)) none none none none)
  unfolding parameter
  coerce-read q₀ =
      split _ (one_of FALSE TRUE s e at) _ (v, q) q₀ λ h qh q₁.
      let (ev, eq) = both q₁ in
      let (l, kind) = go h (one_of-kind s FALSE TRUE e at h qh) in
      let (u, m, b) = flag_at s e at h (one_of-whole s e at h FALSE TRUE qh) l in
      let t : eqb h.kind TRUE ≡ eqb (get_or s at 0) true_byte = rw b kind in
      (omega arith, sym eq ∙ m, sym ev ∙ (rw t))
    where
      go : (h : Head) → (h.kind ≡ FALSE) ⊎ (h.kind ≡ TRUE) → (FALSE ≤ h.kind) × (eqb h.kind TRUE ≡ eqb (0xe0 + h.kind) true_byte)
      go h (inl i) = (omega arith, rw i)
      go h (inr i) = (omega arith, rw i)

  pub record UriAt : Type 0 where
    pub headed : HeadAt s at
    pub given : v ≡ give none (some (part s headed.head.next headed.head.num)) none none none
    pub to : q ≡ headed.head.next + headed.head.num
    pub fits : q ≤ length s
    pub set : 0 < headed.head.next
    pub short : headed.head.num < 256

  uri-read : parameter s n Uri e at ≡ got (v, q) → UriAt
  unfolding parameter
  uri-read q₀ =
      split _ (item TEXT 1 limits.uri s e at) _ (v, q) q₀ λ h qh q₁.
      let (ev, eq) = both q₁ in
      let i = item_law s TEXT 1 limits.uri e at h qh in
      record {
        headed = item-headed s TEXT 1 limits.uri e at h f (omega arith) qh;
        given = sym ev;
        to = sym eq ∙ text-after h i.is;
        fits = omega (arith, i.fits);
        set = omega (arith, i.up);
        short = omega (arith, i.high);
      }

  pub record SourceAt : Type 0 where
    pub headed : HeadAt s at
    pub given : v ≡ give none none (some headed.head.num) none none
    pub to : q ≡ headed.head.next
    pub small : headed.head.num ≤ limits.largest
    pub inside : headed.head.num < n

  source-read : parameter s n Source e at ≡ got (v, q) → SourceAt
  unfolding parameter
  source-read q₀ =
      split₂ _ (number s e at) _ (v, q) q₀ λ k next qk q₁.
      let (t, q₂) = passed (ltb k n) NoSuchComponent at _ (v, q) q₁ in
      let (ev, eq) = both q₂ in
      let (u, m, l) = number_law s e at k next qk in
      record { headed = number-headed s e at k next f qk; given = sym ev; to = sym eq; small = l; inside = ltb-true _ _ t }

  pub record DigestAt : Type 0 where
    pub headed : HeadAt s at
    pub given : v ≡ give none none none (some (part s headed.head.next limits.digest)) none
    pub to : q ≡ headed.head.next + limits.digest
    pub fits : q ≤ length s
    pub set : 0 < headed.head.next

  digest-read : parameter s n Digest e at ≡ got (v, q) → DigestAt
  unfolding parameter
  digest-read q₀ =
      split _ (item BYTES limits.digest limits.digest s e at) _ (v, q) q₀ λ h qh q₁.
      let (ev, eq) = both q₁ in
      let i = item_law s BYTES limits.digest limits.digest e at h qh in
      record {
        headed = item-headed s BYTES limits.digest limits.digest e at h f (omega arith) qh;
        given = sym ev;
        to = omega (arith, eq, bytes_after h i.is, i.low, i.high);
        fits = omega (arith, i.fits);
        set = omega (arith, i.up);
      }

  pub record SizeAt : Type 0 where
    pub headed : HeadAt s at
    pub given : v ≡ give none none none none (some headed.head.num)
    pub to : q ≡ headed.head.next
    pub small : headed.head.num ≤ limits.largest

  size-read : parameter s n Size e at ≡ got (v, q) → SizeAt
  unfolding parameter
  size-read q₀ =
      split₂ _ (number s e at) _ (v, q) q₀ λ k next qk q₁.
      let (ev, eq) = both q₁ in
      let (u, m, l) = number_law s e at k next qk in
      record { headed = number-headed s e at k next f qk; given = sym ev; to = sym eq; small = l }

  headed-read : (key : ℕ) (what : Parameter) → param_of key params ≡ some what → (key ≡ coerce_key → ⊥) → parameter s n what e at ≡ got (v, q) → HeadAt s at
  headed-read key what =
      param_of_lem (λ k x. (k ≡ coerce_key → ⊥) → parameter s n x e at ≡ got (v, q) → HeadAt s at) params key what
      ((λ n q. absurd (n refl)) & (λ n q. (uri-read q).headed) & (λ n q. (source-read q).headed) & (λ n q. (digest-read q).headed) & (λ n q. (size-read q).headed) & tt)

is-size : (key : ℕ) (what : Parameter) → param_of key params ≡ some what → (key ≡ coerce_key → ⊥) → (key ≡ uri_key → ⊥) → (key ≡ source_key → ⊥) → (key ≡ digest_key → ⊥) → what ≡ Size
is-size key what =
    param_of_lem (λ k x. (k ≡ coerce_key → ⊥) → (k ≡ uri_key → ⊥) → (k ≡ source_key → ⊥) → (k ≡ digest_key → ⊥) → x ≡ Size) params key what
    ((λ a b c d. absurd (a refl)) & (λ a b c d. absurd (b refl)) & (λ a b c d. absurd (c refl)) & (λ a b c d. absurd (d refl)) & (λ a b c d. refl) & tt)

what-is : (k : ℕ) (x y : Parameter) → param_of k params ≡ some x → param_of k params ≡ some y → x ≡ y
what-is k x y p q = cc

module _ (s : Bytes) (key at : ℕ) (x : EntryAt s key at) where
  reads_as : (y : Parameter) → x.what ≡ y → parameter s x.n y x.e at ≡ got (x.given, x.to)
  reads_as y e = rw e at x.reads

  pub entry-coerce : key ≡ coerce_key → (at < length s) × (x.to ≡ at + 1) × (x.given ≡ give (some (eqb (get_or s at 0) true_byte)) none none none none)
  entry-coerce k = coerce-read s x.n x.e at x.fits x.given x.to (reads_as Coerce (what-is key x.what Coerce x.known (rw k)))

  pub entry-uri : key ≡ uri_key → UriAt s x.n x.e at x.fits x.given x.to
  entry-uri k = uri-read s x.n x.e at x.fits x.given x.to (reads_as Uri (what-is key x.what Uri x.known (rw k)))

  pub entry-source : key ≡ source_key → SourceAt s x.n x.e at x.fits x.given x.to
  entry-source k = source-read s x.n x.e at x.fits x.given x.to (reads_as Source (what-is key x.what Source x.known (rw k)))

  pub entry-digest : key ≡ digest_key → DigestAt s x.n x.e at x.fits x.given x.to
  entry-digest k = digest-read s x.n x.e at x.fits x.given x.to (reads_as Digest (what-is key x.what Digest x.known (rw k)))

  pub entry-size : (key ≡ coerce_key → ⊥) → (key ≡ uri_key → ⊥) → (key ≡ source_key → ⊥) → (key ≡ digest_key → ⊥) → SizeAt s x.n x.e at x.fits x.given x.to
  entry-size a b c d = size-read s x.n x.e at x.fits x.given x.to (reads_as Size (is-size key x.what x.known a b c d))

  pub entry-headed : (key ≡ coerce_key → ⊥) → HeadAt s at
  entry-headed n = headed-read s x.n x.e at x.fits x.given x.to key x.what x.known n x.reads

-- the head at `at` has that number and that next place
abbrev pub Opens : Bytes → ℕ → ℕ → ℕ → Type 0
Opens s at value next = (y : HeadAt s at) → (value ≡ y.head.num) × (next ≡ y.head.next)

coerce-is : (t : Bool) → coerce_of (cond t coerce_true coerce_false) ≡ some t
coerce-is true = refl
coerce-is false = refl

-- each parameter put over those of a
module _ (s : Bytes) (key at : ℕ) (x : EntryAt s key at) (a : Args) where
  pub put-coerce : key ≡ coerce_key → (b : ℕ) → b ≡ flag_of (get_or s at 0) → (next : ℕ) → next ≡ at + 1 →
      EntryPut s key at x a
      (record {
        value = a.value;
        params = record {
          uri = a.params.uri;
          length = a.params.length;
          source = a.params.source;
          digest = a.params.digest;
          size = a.params.size;
        };
        coerce = b;
        next = next;
      })
  put-coerce k b e next n =
      let (l, to, given) = entry-coerce s key at x k in
      record {
        given = rw (given, e, coerce-is (eqb (get_or s at 0) true_byte));
        next = omega arith;
        fit = λ f. record { source = f.source; digest = f.digest };
        within = λ w. record { inside = w.inside; short = w.short };
      }

  module _ (value next : ℕ) (o : Opens s at value next) where
    pub put-uri : key ≡ uri_key →
        EntryPut s key at x a
        (record {
          value = a.value;
          params = record { uri = next; length = value; source = a.params.source; digest = a.params.digest; size = a.params.size };
          coerce = a.coerce;
          next = next + value;
        })
    unfolding meaning
    put-uri k =
        let y = entry-uri s key at x k in
        let (ev, en) = o y.headed in
        record {
          given = rw (y.given, ← ev, ← en, ne_eqb next 0 (λ z. omega (arith, y.set)));
          next = omega (arith, y.to);
          fit = λ f. record { source = f.source; digest = f.digest };
          within = λ w. record { inside = λ l. omega (arith, y.to, y.fits); short = omega (arith, y.short) };
        }

    pub put-source : key ≡ source_key →
        EntryPut s key at x a
        (record {
          value = a.value;
          params = record { uri = a.params.uri; length = a.params.length; source = value + 1; digest = a.params.digest; size = a.params.size };
          coerce = a.coerce;
          next = next;
        })
    unfolding meaning
    put-source k =
        let y = entry-source s key at x k in
        let (ev, en) = o y.headed in
        let m : value + 1 - 1 ≡ value = omega arith in
        record {
          given = rw (y.given, ← ev, ne_eqb (value + 1) 0 (λ z. omega arith), m);
          next = omega (arith, y.to);
          fit = λ f. record { source = omega (arith, y.inside); digest = f.digest };
          within = λ w. record { inside = w.inside; short = w.short };
        }

    pub put-digest : key ≡ digest_key →
        EntryPut s key at x a
        (record {
          value = a.value;
          params = record { uri = a.params.uri; length = a.params.length; source = a.params.source; digest = next; size = a.params.size };
          coerce = a.coerce;
          next = next + limits.digest;
        })
    unfolding meaning
    put-digest k =
        let y = entry-digest s key at x k in
        let (ev, en) = o y.headed in
        record {
          given = rw (y.given, ← en, ne_eqb next 0 (λ z. omega (arith, y.set)));
          next = omega (arith, y.to);
          fit = λ f. record { source = f.source; digest = λ l. omega (arith, y.to, y.fits) };
          within = λ w. record { inside = w.inside; short = w.short };
        }

    pub put-size : (key ≡ coerce_key → ⊥) → (key ≡ uri_key → ⊥) → (key ≡ source_key → ⊥) → (key ≡ digest_key → ⊥) →
        EntryPut s key at x a
        (record {
          value = a.value;
          params = record { uri = a.params.uri; length = a.params.length; source = a.params.source; digest = a.params.digest; size = value + 1 };
          coerce = a.coerce;
          next = next;
        })
    unfolding meaning
    put-size n₁ n₂ n₃ n₄ =
        let y = entry-size s key at x n₁ n₂ n₃ n₄ in
        let (ev, en) = o y.headed in
        let m : value + 1 - 1 ≡ value = omega arith in
        record {
          given = rw (y.given, ← ev, ne_eqb (value + 1) 0 (λ z. omega arith), m);
          next = omega (arith, y.to);
          fit = λ f. record { source = f.source; digest = f.digest };
          within = λ w. record { inside = w.inside; short = w.short };
        }

-- the first of some entries, and the rest
pub record Step (s : Bytes) (n k : ℕ) (g : Given) (e at : ℕ) (given : Given) (to : ℕ) : Type 0 where
  pub name : ℕ
  pub next : ℕ
  pub named : number s e at ≡ got (name, next)
  pub what : Parameter
  pub known : param_of name params ≡ some what
  pub value : Given
  pub after : ℕ
  pub reads : parameter s n what e next ≡ got (value, after)
  pub rest : entries s n (k - 1) (name + 1) (over_given value g) e after ≡ got (given, to)

pub entries-step : (s : Bytes) (n k low : ℕ) (g : Given) (e at : ℕ) (given : Given) (to : ℕ) → 0 < k → entries s n k low g e at ≡ got (given, to) →
    Step s n k g e at given to
unfolding entries
entries-step s n zero low g e at given to l q₀ = absurd (omega arith)
entries-step s n (suc k) low g e at given to l q₀ =
    split₂ _ (number s e at) _ (given, to) q₀ λ name next qn q₁.
    let (_, q₂) = passed (leb low name) Malformed at _ (given, to) q₁ in
    split _ (found (param_of name params) UnknownParameter at) _ (given, to) q₂ λ what qk q₃.
    split₂ _ (parameter s n what e next) _ (given, to) q₃ λ v q qv q₄.
    let z : suc k - 1 ≡ k = omega arith in
    record {
      name = name;
      next = next;
      named = qn;
      what = what;
      known = found-is (param_of name params) UnknownParameter at what qk;
      value = v;
      after = q;
      reads = qv;
      rest = rw z q₄;
    }

pub entries_none : (s : Bytes) (n k low : ℕ) (g : Given) (e at : ℕ) (given : Given) (to : ℕ) → k ≡ 0 → entries s n k low g e at ≡ got (given, to) →
    (g ≡ given) × (at ≡ to)
unfolding entries
entries_none s n k low g e at given to z q = both (rw z at q)

module _ (s : Bytes) (n k : ℕ) (g : Given) (e at : ℕ) (given : Given) (to : ℕ) (f : e ≤ length s) (t : Step s n k g e at given to) where
  abbrev pub step-headed : HeadAt s at
  step-headed = number-headed s e at t.name t.next f t.named

  abbrev pub step-entry : (key p : ℕ) → key ≡ t.name → p ≡ t.next → EntryAt s key p
  step-entry key p i j =
      record {
        n = n;
        e = e;
        fits = f;
        what = t.what;
        known = rw i t.known;
        given = t.value;
        to = t.after;
        reads = rw j t.reads;
      }

pub fit_bare : (s : Bytes) (n : ℕ) → Fit s n (bare_at 0 0).params
fit_bare s n = record { source = omega arith; digest = λ l. absurd (omega arith) }

pub within_bare : (s : Bytes) → Within s (bare_at 0 0).params
within_bare s = record { inside = λ l. absurd (omega arith); short = omega arith }

pub given_bare : (s : Bytes) → given_of s (bare_at 0 0) ≡ nothing
unfolding meaning
given_bare s = refl
