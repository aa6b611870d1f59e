-- The records of a program, one after the other, by their places.
use Prim.Native.Nat.{ℕ, suc, ◌+◌, ◌-◌, ◌≤◌, ◌<◌}
use mathlib.Core.Path.{◌≡◌, refl, sym, ap, ◌∙◌}
use mathlib.Core.List.{List, [], ◌∷◌, ◌++◌, append-nil}
use mathlib.Core.Bool.{false, true≢false}
use Rattle.std.proofs.Common.{Some, None}
use native.Mathlib.Omega.{arith}
use lib.ListN.{length, drop}
use Rattle.rules.specs.declared.answers.Group.{Group}
use Rattle.rules.specs.Bytes.{Bytes}
use Rattle.rules.specs.Commands.{Op}
use Rattle.rules.specs.Got.{Got, refused, got, ◌>>=◌, accepted}
use Rattle.rules.specs.Program.{Rec, does, jump}
use Rattle.rules.specs.ProgramTest.{record_in, records_in, non_jumps}
use Rattle.rules.proofs.GotLaws.{after, after_more, after_none}
use Rattle.program_records.specs.Records.{records_are}
use Rattle.program_parameters.proofs.PartLaws.{rest_at}

count-more : (rs : List Rec) (r : Rec) → non_jumps (rs ++ (r ∷ [])) ≡ non_jumps rs + non_jumps (r ∷ [])
count-more [] r = omega arith
count-more (does op i p t ∷ rs) r = omega (arith, count-more rs r)
count-more (jump t ∷ rs) r = count-more rs r

module _ (g : Group) (comps total : ℕ) (p : Bytes) (at : ℕ) where
  abbrev all : Got (List Rec × Bytes)
  all = records_in g comps total total 0 (drop at p)

  -- n records were read, `jumps` of them jumps, and `next` is the place after them
  pub record Sofar (next jumps n : ℕ) : Type 0 where
    pub records : List Rec
    pub reads : all ≡ after records (records_in g comps total (total - n) n (drop next p))
    pub here : next ≤ length p
    pub count : n ≡ jumps + non_jumps records

  pub sofar_start : at ≤ length p → Sofar at 0 0
  sofar_start h =
      let z : total - 0 ≡ total = omega arith in
      record { records = []; reads = rw z (sym (after_none all)); here = h; count = refl }

  module _ (next jumps n : ℕ) (f : Sofar next jumps n) where
    pub sofar_end : n ≡ total → Some (record { next = next; commands = total - jumps }) ≡ records_are (length p) all
    unfolding records_in
    sofar_end q =
        let z : total - n ≡ 0 = omega arith in
        let e : all ≡ got (f.records, drop next p) = f.reads ∙ rw (z, append-nil) in
        let k : total - jumps ≡ non_jumps f.records = omega (arith, f.count) in
        rw (e, rest_at p next f.here, k)

    module _ (l : n < total) where
      abbrev here : Got (Rec × Bytes)
      here = record_in g comps total n (drop next p)

      turn : all ≡ after f.records (here >>= λ a. records_in g comps total (total - (n + 1)) (n + 1) a.1 >>= λ b. got (a.0 ∷ b.0, b.1))
      unfolding records_in
      turn = let k : total - n ≡ suc (total - (n + 1)) = omega arith in f.reads ∙ rw k

      pub sofar_stop : accepted here ≡ false → None ≡ records_are (length p) all
      sofar_stop h = go here refl
        where
          go : (x : Got (Rec × Bytes)) → here ≡ x → None ≡ records_are (length p) all
          go (refused k m) e = let b : all ≡ refused k m = turn ∙ rw e in rw b
          go (got a) e = absurd (true≢false (ap accepted (sym e) ∙ h))

      sofar_next : (x : Rec) (r m : ℕ) → here ≡ got (x, drop r p) → r ≤ length p → m + non_jumps (x ∷ []) ≡ jumps + 1 → Sofar r m (n + 1)
      sofar_next x r m e u w =
          record {
            records = f.records ++ (x ∷ []);
            reads = turn ∙ rw e (after_more f.records x (records_in g comps total (total - (n + 1)) (n + 1) (drop r p)));
            here = u;
            count = omega (arith, count-more f.records x, f.count);
          }

      module _ (r m : ℕ) (u : r ≤ length p) where
        pub sofar_command : (op : Op) (i place target : ℕ) → here ≡ got (does op i place target, drop r p) → m ≡ jumps → Sofar r m (n + 1)
        sofar_command op i place target e w = sofar_next (does op i place target) r m e u (omega arith)

        pub sofar_jump : (target : ℕ) → here ≡ got (jump target, drop r p) → m ≡ jumps + 1 → Sofar r m (n + 1)
        sofar_jump target e w = sofar_next (jump target) r m e u (omega arith)
