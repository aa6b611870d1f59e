-- The argument of a command that writes an event: what is read is what check has read.
use Prim.Native.Nat.{ℕ, ◌+◌, ◌-◌, ◌≤◌, ◌<◌}
use mathlib.Core.Path.{◌≡◌, refl, sym, ap, ◌∙◌}
use mathlib.Core.Bool.{Bool, true, false, cond}
use mathlib.Core.Logic.{◌⊎◌, inl, inr, ⊎_elim}
use mathlib.Core.Option.{Option, some, none, get_or}
use native.Mathlib.Omega.{arith}
use lib.Dec.{ltb, eqb}
use lib.ListN.{length}
use borrow.Author.Tests.{ltb-true, eqb-true, eqb-false}
use Rattle.rules.specs.declared.answers.Refusal.TheVariants.{NoSuchComponent}
use Rattle.rules.specs.Limits.{limits}
use Rattle.rules.specs.Bytes.{Bytes, part}
use Rattle.rules.specs.Got.{got}
use Rattle.rules.specs.Cbor.{BYTES, ARRAY, MAP, NIL, item}
use Rattle.rules.specs.Commands.{Op, vendor, class, image_match, set_index, abort, set_params, override_params, fetch, copy, run, swap, Params, Form, sixteen, nil, below, alternatives}
use Rattle.rules.specs.Commands.{parameters, sequence, Row, commands, row_of, code, component, vendor_code, class_code, set_index_code, set_parameters_code, override_code}
use Rattle.rules.specs.Manifest.{Seq, one}
use Rattle.rules.specs.Check.{Read, Given, nothing, number, in_bytes, entries, alternatives_at, argument}
use Rattle.rules.proofs.GotLaws.{passed, both, split, split₂}
use Rattle.rules.proofs.CheckLaws.{item_law, bytes_after}
use Rattle.manifest_accessors.specs.declared.arguments.Args.{Args}
use Rattle.run_slots.specs.declared.params.Params as Words
use Rattle.run_slots.specs.Params.{meaning}
use Rattle.run_commands.specs.Op.{op_of}
use Rattle.manifest_accessors.specs.Heads.{HeadAt}
use Rattle.manifest_accessors.specs.Arguments.{is_true, coerce_of, bare_at, Entries, EntriesRead, ArgumentAt, ArgumentRead}
use Rattle.rules.proofs.TableLaws.{each_row, ◌&◌}
use Rattle.manifest_accessors.proofs.ArgumentLaws.{form_of}
use Rattle.manifest_accessors.proofs.EntryLaws.{Opens, fit_bare, within_bare}
use Rattle.manifest_accessors.proofs.HeadLaws.{flag_at, item-whole, item-headed, number-headed}

row_above : (c : ℕ) (r : Row) → row_of c commands ≡ some r → 0 < c
row_above c r =
    each_row (λ c r. 0 < c) commands c r
    (omega arith & omega arith & omega arith & omega arith & omega arith & omega arith & omega arith & omega arith & omega arith & omega arith
    & omega arith & omega arith & omega arith & tt)

-- an argument by its form
module _ (s : Bytes) (deeper : ℕ → Read Seq) (n m place e at : ℕ) (op : Op) (coerce : Option Bool) (to : ℕ) (f : e ≤ length s) where
  abbrev Reads : Form → Type 0
  Reads form = argument s deeper n 1 m place form e at ≡ got (one place op coerce, to)

  pub record SixteenAt (make : Bytes → Op) : Type 0 where
    pub headed : HeadAt s at
    pub op-is : op ≡ make (part s headed.head.next limits.class)
    pub coerce-is : coerce ≡ none
    pub to_is : to ≡ headed.head.next + limits.class
    pub fits : to ≤ length s

  sixteen-read : (make : Bytes → Op) → Reads (sixteen make) → SixteenAt make
  unfolding argument
  sixteen-read make q₀ =
      split _ (item BYTES limits.class limits.class s e at) _ (one place op coerce, to) q₀ λ h qh q₁.
      let (eo, et) = both q₁ in
      let i = item_law s BYTES limits.class limits.class e at h qh in
      record {
        headed = item-headed s BYTES limits.class limits.class e at h f (omega arith) qh;
        op-is = cc;
        coerce-is = cc;
        to_is = omega (arith, bytes_after h i.is, i.low, i.high);
        fits = omega (arith, i.fits);
      }

  pub record IndexAt (make : ℕ → Op) : Type 0 where
    pub headed : HeadAt s at
    pub op-is : op ≡ make headed.head.num
    pub coerce-is : coerce ≡ none
    pub to_is : to ≡ headed.head.next
    pub inside : headed.head.num < n

  index_read : (make : ℕ → Op) → Reads (below make) → IndexAt make
  unfolding argument
  index_read make q₀ =
      split₂ _ (number s e at) _ (one place op coerce, to) q₀ λ k next qk q₁.
      let (t, q₂) = passed (ltb k n) NoSuchComponent at _ (one place op coerce, to) q₁ in
      let (eo, et) = both q₂ in
      record { headed = number-headed s e at k next f qk; op-is = cc; coerce-is = cc; to_is = sym et; inside = ltb-true _ _ t }

  pub record ParamsAt (make : Params → Op) : Type 0 where
    pub headed : HeadAt s at
    pub given : Given
    pub reads : entries s n headed.head.num 0 nothing e headed.head.next ≡ got (given, to)
    pub op-is : op ≡ make given.params
    pub coerce-is : coerce ≡ given.coerce

  params-read : (make : Params → Op) → Reads (parameters make) → ParamsAt make
  unfolding argument
  params-read make q₀ =
      split _ (item MAP 1 limits.parameters s e at) _ (one place op coerce, to) q₀ λ h qh q₁.
      split₂ _ (entries s n h.num 0 nothing e h.next) _ (one place op coerce, to) q₁ λ g next qg q₂.
      let (eo, et) = both q₂ in
      record {
        headed = item-headed s MAP 1 limits.parameters e at h f (omega arith) qh;
        given = g;
        reads = rw et at qg;
        op-is = cc;
        coerce-is = cc;
      }

  pub record NilAt (make : Op) : Type 0 where
    pub op-is : op ≡ make
    pub coerce-is : coerce ≡ none
    pub to_is : to ≡ at + 1
    pub fits : at < length s

  nil-read : (make : Op) → Reads (nil make) → NilAt make
  unfolding argument
  nil-read make q₀ =
      split _ (item NIL 0 0 s e at) _ (one place op coerce, to) q₀ λ h qh q₁.
      let (eo, et) = both q₁ in
      let i = item_law s NIL 0 0 e at h qh in
      let b = flag_at s e at h (item-whole s e at h NIL 0 0 qh) (omega (arith, i.is)) in
      record { op-is = cc; coerce-is = cc; to_is = omega arith; fits = omega arith }

  no_try : Reads alternatives → ⊥
  unfolding argument
  no_try q₀ =
      split _ (item ARRAY 1 limits.alternatives s e at) _ (one place op coerce, to) q₀ λ h qh q₁.
      split₂ _ (alternatives_at s deeper 1 (h.num - 1) m e h.next) _ (one place op coerce, to) q₁ λ a next qa q₂.
      let (eo, et) = both q₂ in
      let z : ◌≡◌ {A = ℕ} 0 1 = cc in
      omega arith

  no_sub : Reads sequence → ⊥
  unfolding argument
  no_sub q₀ =
      split₂ _ (in_bytes s (deeper m) e at) _ (one place op coerce, to) q₀ λ a p qa q₁.
      let (eo, et) = both q₁ in
      let z : ◌≡◌ {A = ℕ} 0 1 = cc in
      omega arith

  -- its code, and its component unless it sets the index
  abbrev Plain : ℕ → Type 0
  Plain c = (code op ≡ c) × ((c ≡ set_index_code → ⊥) → (i : ℕ) → component op i ≡ i)

  plain-nil : (make : Op) (c : ℕ) → code make ≡ c → ((i : ℕ) → component make i ≡ i) → Reads (nil make) → Plain c
  plain-nil make c k h q = let y = nil-read make q in (rw y.op-is k, λ n i. rw y.op-is (h i))

  plain : (c : ℕ) (r : Row) → row_of c commands ≡ some r → Reads r.form → Plain c
  plain c r =
      each_row (λ c r. Reads r.form → Plain c) commands c r
      ((λ q. let y = sixteen-read _ q in (rw y.op-is, λ n i. rw y.op-is))
      & (λ q. let y = sixteen-read _ q in (rw y.op-is, λ n i. rw y.op-is))
      & (λ q. plain-nil _ _ refl (λ i. refl) q)
      & (λ q. let y = index_read _ q in (rw y.op-is, λ n i. absurd (n refl)))
      & (λ q. plain-nil _ _ refl (λ i. refl) q)
      & (λ q. absurd (no_try q))
      & (λ q. let y = params-read _ q in (rw y.op-is, λ n i. rw y.op-is))
      & (λ q. let y = params-read _ q in (rw y.op-is, λ n i. rw y.op-is))
      & (λ q. plain-nil _ _ refl (λ i. refl) q)
      & (λ q. plain-nil _ _ refl (λ i. refl) q)
      & (λ q. plain-nil _ _ refl (λ i. refl) q)
      & (λ q. absurd (no_sub q))
      & (λ q. plain-nil _ _ refl (λ i. refl) q)
      & tt)

  -- a command with neither bytes, index nor parameters
  abbrev Rest : ℕ → Type 0
  Rest c = ((v : ℕ) (p : Words.Params) → op_of s c v p ≡ op) × (coerce ≡ none) × (to ≡ at + 1) × (at < length s)

  rest-nil : (make : Op) → ((v : ℕ) (p : Words.Params) → op_of s (code make) v p ≡ make) → Reads (nil make) → Rest (code make)
  rest-nil make k q = let y = nil-read make q in ((λ v p. k v p ∙ sym y.op-is), y.coerce-is, y.to_is, y.fits)

  rest : (c : ℕ) (r : Row) → row_of c commands ≡ some r → (1 ≤ c → 3 ≤ c) → (c ≡ set_index_code → ⊥) → (19 ≤ c → 21 ≤ c) → Reads r.form → Rest c
  unfolding op_of
  rest c r =
      each_row (λ c r. (1 ≤ c → 3 ≤ c) → (c ≡ set_index_code → ⊥) → (19 ≤ c → 21 ≤ c) → Reads r.form → Rest c) commands c r
      ((λ i j k q. absurd (omega (arith, i (omega arith))))
      & (λ i j k q. absurd (omega (arith, i (omega arith))))
      & (λ i j k q. rest-nil image_match (λ v p. refl) q)
      & (λ i j k q. absurd (j refl))
      & (λ i j k q. rest-nil abort (λ v p. refl) q)
      & (λ i j k q. absurd (no_try q))
      & (λ i j k q. absurd (omega (arith, k (omega arith))))
      & (λ i j k q. absurd (omega (arith, k (omega arith))))
      & (λ i j k q. rest-nil fetch (λ v p. refl) q)
      & (λ i j k q. rest-nil copy (λ v p. refl) q)
      & (λ i j k q. rest-nil run (λ v p. refl) q)
      & (λ i j k q. absurd (no_sub q))
      & (λ i j k q. rest-nil swap (λ v p. refl) q)
      & tt)

module _ (s : Bytes) (c v : ℕ) (p : Words.Params) where
  op_1 : c ≡ vendor_code → op_of s c v p ≡ vendor (part s v limits.class)
  unfolding op_of
  op_1 k = rw k

  op_2 : c ≡ class_code → op_of s c v p ≡ class (part s v limits.class)
  unfolding op_of
  op_2 k = rw k

  op_12 : c ≡ set_index_code → op_of s c v p ≡ set_index v
  unfolding op_of
  op_12 k = rw k

  op_19 : c ≡ set_parameters_code → op_of s c v p ≡ set_params (meaning s p)
  unfolding op_of
  op_19 k = rw k

  op_20 : c ≡ override_code → op_of s c v p ≡ override_params (meaning s p)
  unfolding op_of
  op_20 k = rw k

-- the commands by their codes
module _ (s : Bytes) (c at : ℕ) (x : ArgumentAt s c at) where
  abbrev AsForm : Form → Type 0
  AsForm form = argument s x.deeper x.n 1 x.m x.place form x.e at ≡ got (one x.place x.op x.coerce, x.to)

  as_form : (k : ℕ) → c ≡ k → (r : Row) → row_of k commands ≡ some r → AsForm r.form
  as_form k e r q = rw (form_of c x.row r x.listed (rw e q)) at x.reads

  pub one_plain : (code x.op ≡ c) × ((c ≡ set_index_code → ⊥) → (i : ℕ) → component x.op i ≡ i)
  one_plain = plain s x.deeper x.n x.m x.place x.e at x.op x.coerce x.to x.fits c x.row x.listed x.reads

  pub one-rest : (1 ≤ c → 3 ≤ c) → (c ≡ set_index_code → ⊥) → (19 ≤ c → 21 ≤ c) →
      ((v : ℕ) (p : Words.Params) → op_of s c v p ≡ x.op) × (x.coerce ≡ none) × (x.to ≡ at + 1) × (at < length s)
  one-rest i j k =
      rest s x.deeper x.n x.m x.place x.e at x.op x.coerce x.to x.fits c x.row x.listed i j k x.reads

  pub record Sixteen : Type 0 where
    pub headed : HeadAt s at
    pub op-is : (p : Words.Params) → op_of s c headed.head.next p ≡ x.op
    pub coerce-is : x.coerce ≡ none
    pub to_is : x.to ≡ headed.head.next + limits.class
    pub fits : x.to ≤ length s

  pub one-sixteen : (c ≡ vendor_code) ⊎ (c ≡ class_code) → Sixteen
  one-sixteen (inl k) =
      let y = sixteen-read s x.deeper x.n x.m x.place x.e at x.op x.coerce x.to x.fits vendor (as_form 1 k _ refl) in
      record { headed = y.headed; op-is = λ p. op_1 s c _ p k ∙ sym y.op-is; coerce-is = y.coerce-is; to_is = y.to_is; fits = y.fits }
  one-sixteen (inr k) =
      let y = sixteen-read s x.deeper x.n x.m x.place x.e at x.op x.coerce x.to x.fits class (as_form 2 k _ refl) in
      record { headed = y.headed; op-is = λ p. op_2 s c _ p k ∙ sym y.op-is; coerce-is = y.coerce-is; to_is = y.to_is; fits = y.fits }

  pub record Index : Type 0 where
    pub headed : HeadAt s at
    pub op-is : x.op ≡ set_index headed.head.num
    pub coerce-is : x.coerce ≡ none
    pub to_is : x.to ≡ headed.head.next
    pub inside : headed.head.num < x.n

  pub one_index : c ≡ set_index_code → Index
  one_index k =
      let y = index_read s x.deeper x.n x.m x.place x.e at x.op x.coerce x.to x.fits set_index (as_form 12 k _ refl) in
      record { headed = y.headed; op-is = y.op-is; coerce-is = y.coerce-is; to_is = y.to_is; inside = y.inside }

  pub record Map : Type 0 where
    pub headed : HeadAt s at
    pub given : Given
    pub reads : entries s x.n headed.head.num 0 nothing x.e headed.head.next ≡ got (given, x.to)
    pub op-is : (v : ℕ) (p : Words.Params) → meaning s p ≡ given.params → op_of s c v p ≡ x.op
    pub coerce-is : x.coerce ≡ given.coerce

  pub one_map : (c ≡ set_parameters_code) ⊎ (c ≡ override_code) → Map
  one_map (inl k) =
      let y = params-read s x.deeper x.n x.m x.place x.e at x.op x.coerce x.to x.fits set_params (as_form 19 k _ refl) in
      record {
        headed = y.headed;
        given = y.given;
        reads = y.reads;
        op-is = λ v p e. op_19 s c v p k ∙ (rw e (sym y.op-is));
        coerce-is = y.coerce-is;
      }
  one_map (inr k) =
      let y = params-read s x.deeper x.n x.m x.place x.e at x.op x.coerce x.to x.fits override_params (as_form 20 k _ refl) in
      record {
        headed = y.headed;
        given = y.given;
        reads = y.reads;
        op-is = λ v p e. op_20 s c v p k ∙ (rw e (sym y.op-is));
        coerce-is = y.coerce-is;
      }

  -- what was read, from its parts
  abbrev New : ℕ → Type 0
  New v = c ≡ set_index_code → ((i : ℕ) → component x.op i ≡ v) × (v < x.n)

  component-at : (v : ℕ) → New v → (i : ℕ) → component x.op i ≡ cond (eqb c set_index_code) v i
  component-at v new i = go (eqb c set_index_code) refl
    where
      go : (b : Bool) → eqb c set_index_code ≡ b → component x.op i ≡ cond b v i
      go true e = (new (eqb-true _ _ e)).0 i
      go false e = one_plain.1 (eqb-false _ _ e) i

  component_in : (v : ℕ) → New v → (i : ℕ) → i < x.n → component x.op i < x.n
  component_in v new i l = go (eqb c set_index_code) refl
    where
      go : (b : Bool) → eqb c set_index_code ≡ b → component x.op i < x.n
      go true e = let (q, h) = new (eqb-true _ _ e) in omega (arith, q i)
      go false e = omega (arith, one_plain.1 (eqb-false _ _ e) i)

  module _ (value next : ℕ) (o : Opens s at value next) where
    pub read-sixteen : (c ≡ vendor_code) ⊎ (c ≡ class_code) → ArgumentRead s c at x (bare_at next (next + limits.class))
    read-sixteen k =
        let y = one-sixteen k in
        let (ev, en) = o y.headed in
        let new : New next = λ j. absurd (⊎_elim (λ i. omega arith) (λ i. omega arith) k) in
        record {
          op = rw en (y.op-is _);
          coerce = sym y.coerce-is;
          next = omega (arith, y.to_is);
          fit = fit_bare s x.n;
          within = within_bare s;
          sixteen = λ l. omega (arith, y.to_is, y.fits);
          inside = component_in _ new;
          component = component-at _ new;
        }

    pub read-index : c ≡ set_index_code → ArgumentRead s c at x (bare_at value next)
    read-index k =
        let y = one_index k in
        let (ev, en) = o y.headed in
        let new : New value = λ j. ((λ i. rw y.op-is (sym ev)), omega (arith, y.inside)) in
        record {
          op = op_12 s c _ _ k ∙ (rw ev (sym y.op-is));
          coerce = sym y.coerce-is;
          next = omega (arith, y.to_is);
          fit = fit_bare s x.n;
          within = within_bare s;
          sixteen = λ l. absurd (omega arith);
          inside = component_in _ new;
          component = component-at _ new;
        }

    abbrev pub map-entries : (c ≡ set_parameters_code) ⊎ (c ≡ override_code) → Entries s value next
    map-entries k =
        let y = one_map k in
        record {
          n = x.n;
          e = x.e;
          fits = x.fits;
          given = y.given;
          to = x.to;
          reads = rw ((o y.headed).0, (o y.headed).1) y.reads;
        }

    pub read-map : (k : (c ≡ set_parameters_code) ⊎ (c ≡ override_code)) (a : Args) →
        EntriesRead s value next (map-entries k) a → ArgumentRead s c at x a
    read-map k a (g, n, f, w) =
        let y = one_map k in
        let new : New a.value = λ j. absurd (⊎_elim (λ i. omega arith) (λ i. omega arith) k) in
        record {
          op = y.op-is _ _ (ap (λ (z : Given). z.params) g);
          coerce = ap (λ (z : Given). z.coerce) g ∙ sym y.coerce-is;
          next = n;
          fit = f;
          within = w;
          sixteen = λ l. absurd (⊎_elim (λ i. omega arith) (λ i. omega arith) k);
          inside = component_in _ new;
          component = component-at _ new;
        }

  pub read-rest : (1 ≤ c → 3 ≤ c) → (c ≡ set_index_code → ⊥) → (19 ≤ c → 21 ≤ c) → ArgumentRead s c at x (bare_at 0 (at + 1))
  read-rest i j k =
      let (op-is, coerce-is, to_is, fits) = one-rest i j k in
      let new : New 0 = λ q. absurd (j q) in
      record {
        op = op-is _ _;
        coerce = sym coerce-is;
        next = sym to_is;
        fit = fit_bare s x.n;
        within = within_bare s;
        sixteen = λ l. absurd (omega (arith, i (row_above c x.row x.listed)));
        inside = component_in _ new;
        component = component-at _ new;
      }

-- coerce after an argument that may set it
pub coerce-after : (x y : ℕ) → is_true (cond (eqb x 0) y x) ≡ get_or (coerce_of x) (is_true y)
coerce-after x y = go (eqb x 0)
  where
    go : (b : Bool) → is_true (cond b y x) ≡ get_or (cond b none (some (is_true x))) (is_true y)
    go true = refl
    go false = refl
