-- The alternatives of a try each, one after the other, as check read them.
use Prim.Native.Nat.{ℕ, ◌+◌, ◌-◌, ◌≤◌, ◌<◌}
use mathlib.Core.Path.{◌≡◌, refl, ap}
use mathlib.Core.List.{List, [], ◌∷◌}
use native.Mathlib.Omega.{arith}
use lib.ListN.{length}
use Rattle.rules.specs.Bytes.{Bytes}
use Rattle.rules.specs.Got.{got}
use Rattle.rules.specs.Cbor.{BYTES, ARRAY, after}
use Rattle.rules.specs.Limits.{limits}
use Rattle.rules.specs.Manifest.{Seq, count}
use Rattle.rules.specs.Check.{Read, strings, sequence_at}
use Rattle.rules.proofs.CheckLaws.{Item, item_law}
use Rattle.manifest_accessors.specs.Heads.{HeadAt, Strings}
use Rattle.manifest_accessors.specs.Places.{CommandAt}
use Rattle.manifest_accessors.proofs.HeadLaws.{item-headed}
use Rattle.manifest_accessors.proofs.CommandPlaces.{InString, Tries, Alternatives, list_of, alternatives_law}

-- k alternatives at `at` as check read them
pub record AltsAt (s : Bytes) (n depth events k at to : ℕ) : Type 0 where
  pub section : ℕ
  pub m : ℕ
  pub e : ℕ
  pub fits : e ≤ length s
  pub seqs : List Seq
  pub size : length seqs ≡ k
  pub reads : Alternatives s (sequence_at s n section 1 depth) e seqs m at to
  pub few : events ≤ m

-- once the head of a try each is read: its alternatives
module _ (s : Bytes) (n depth events at : ℕ) (x : CommandAt s n depth events at) (p : ℕ) (t : Tries s n depth events at x p) where
  abbrev pub try-head : HeadAt s p
  try-head = item-headed s ARRAY 1 limits.alternatives x.e p t.head x.fits (omega arith) t.item

  abbrev pub try-places : (w from : ℕ) → (w ≡ t.head.num) × (from ≡ t.head.next) → AltsAt s n depth events w from x.to
  try-places w from o =
      let (l, size) = alternatives_law s (sequence_at s n x.section 1 depth) (t.head.num - 1) (x.m + 1) x.e t.head.next t.alts x.to t.reads in
      record {
        section = x.section;
        m = x.m + 1;
        e = x.e;
        fits = x.fits;
        seqs = list_of t.alts;
        size = omega (arith, size, o.0, t.some_of);
        reads = rw o.1 l;
        few = omega (arith, x.few);
      }

-- the first of some alternatives, and the others
pub record Choice (s : Bytes) (n depth events k at to : ℕ) (x : AltsAt s n depth events k at to) : Type 0 where
  pub first : Seq
  pub inside : InString s (sequence_at s n x.section 1 depth) x.m x.e at first
  pub rest : AltsAt s n depth 0 (k - 1) (inside.head.next + inside.head.num) to
  pub seqs : x.seqs ≡ first ∷ rest.seqs
  pub more : rest.m ≡ x.m + count first

pub choice : (s : Bytes) (n depth events k at to : ℕ) (x : AltsAt s n depth events k at to) → 0 < k → Choice s n depth events k at to x
choice s n depth events k at to x h = go x.seqs refl x.size x.reads
  where
    go : (list : List Seq) → x.seqs ≡ list → length list ≡ k → Alternatives s (sequence_at s n x.section 1 depth) x.e list x.m at to → Choice s n depth events k at to x
    go [] q l r = absurd (omega (arith, l, h))
    go (a ∷ rest) q l r =
        record {
          first = a;
          inside = r.0;
          rest =
              record {
                section = x.section;
                m = x.m + count a;
                e = x.e;
                fits = x.fits;
                seqs = rest;
                size = omega (arith, l);
                reads = r.1;
                few = omega arith;
              };
          seqs = q;
          more = refl;
        }

pub no_choice : (s : Bytes) (n depth events k at to : ℕ) (x : AltsAt s n depth events k at to) → k ≡ 0 → (x.seqs ≡ []) × (at ≡ to)
no_choice s n depth events k at to x z = go x.seqs refl x.size x.reads
  where
    go : (list : List Seq) → x.seqs ≡ list → length list ≡ k → Alternatives s (sequence_at s n x.section 1 depth) x.e list x.m at to → (x.seqs ≡ []) × (at ≡ to)
    go [] q l r = (q, r)
    go (a ∷ rest) q l r = absurd (omega (arith, l, z))

-- they are byte strings
pub strings_of : (s : Bytes) (deeper : ℕ → Read Seq) (e : ℕ) (list : List Seq) (m at to : ℕ) → Alternatives s deeper e list m at to → strings s (length list) e at ≡ got to
unfolding strings
strings_of s deeper e [] m at to r = ap got r
strings_of s deeper e (a ∷ rest) m at to r =
    let i : Item s BYTES 0 limits.largest e at r.0.head = item_law s BYTES 0 limits.largest e at r.0.head r.0.item in
    let w : after r.0.head ≡ r.0.head.next + r.0.head.num = rw i.is in
    rw (r.0.item, w) (strings_of s deeper e rest (m + count a) (r.0.head.next + r.0.head.num) to r.1)

abbrev pub strings-at : (s : Bytes) (n depth events k at to : ℕ) (x : AltsAt s n depth events k at to) → Strings s k at
strings-at s n depth events k at to x =
    record { e = x.e; fits = x.fits; to = to; reads = rw x.size at (strings_of s (sequence_at s n x.section 1 depth) x.e x.seqs x.m at to x.reads) }
