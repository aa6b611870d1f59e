-- What a command's record gives to a run, and what the command leaves.
use Prim.Native.Nat.{ℕ, ◌+◌, ◌*◌, ◌≤◌, ◌<◌}
use mathlib.Core.Path.{◌≡◌, refl, sym, ap, ◌∙◌}
use mathlib.Core.List.{List, ◌∷◌}
use native.Mathlib.Omega.{arith}
use lib.ListN.{length, get_or}
use Rattle.rules.specs.Answers.{end_of, result_number}
use Rattle.rules.specs.Bytes.{Bytes, part, put, two_at}
use Rattle.rules.specs.Commands as Op
use Rattle.rules.specs.Limits.{limits}
use Rattle.rules.specs.Program.{Rec, does}
use Rattle.rules.specs.ProgramFormat.{code_from, component_from, place_from, target_from, argument_from, record_size}
use Rattle.rules.specs.ProgramRun.{exec, resume}
use Rattle.rules.specs.ProgramTest.{non_jumps}
use Rattle.rules.specs.Step.{State, Out, out, acts, step, event_bytes, event}
use Rattle.run_slots.specs.Params.{FitAll, SlotsKept}
use Rattle.run_actions.specs.declared.Effect.{Effect}
use Rattle.run_actions.specs.declared.Progress.{Progress}
use Rattle.run_commands.specs.Machine.{state_at}
use Rattle.run_commands.proofs.LentLaws.{moves-step, lent-after}
use Rattle.run_commands.proofs.PerformLaws.{with_event_lem}
use Rattle.program_steps.specs.declared.ProgramState.{ProgramState}
use Rattle.program_commands.specs.Act.{ActJob, next_record}
use Rattle.program_steps.specs.Step.{OnwardJob, Onward, state_of, ExecJob, Executed}
use Rattle.program_jump.proofs.FirstRecord.{First, first_of}
use Rattle.program_arguments.proofs.FormLaws.{op-code}
use Rattle.program_record.proofs.ReadRecord.{Commands}
use Rattle.rules_theorems.proofs.RunLaws.{exec-does}

module _ (p : Bytes) (current : ProgramState) (vendor class answers slots : Bytes) (memory : List ℕ) (trace : Bytes)
    (j : ExecJob p current vendor class answers slots memory trace) where
  abbrev at : ℕ
  at = current.at

  abbrev here : First p j.group j.components j.total current.n at j.ready.place
  here = first_of p j.group j.components j.total current.n at j.ready.place j.before

  abbrev command : Commands j.group j.components j.total current.n here.first (get_or p (at + code_from) 0) (get_or p (at + component_from) 0)
      (two_at p (at + place_from)) (two_at p (at + target_from))
      (part p (at + record_size) (two_at p (at + argument_from)))
  command = here.kind.does j.stands

  pub execute_room : at + record_size ≤ length p
  execute_room = omega (arith, here.room)

  pub execute_number : current.n < limits.records
  execute_number = omega (arith, j.before, j.ready.size)

  records_are_lem : j.ready.place.records ≡ does command.op (get_or p (at + component_from) 0) (two_at p (at + place_from)) (two_at p (at + target_from)) ∷ here.others.records
  records_are_lem = here.records ∙ ap (λ (r : Rec). r ∷ here.others.records) command.is

  -- an event of this command
  event-more : non_jumps j.ready.place.records ≡ non_jumps here.others.records + 1
  event-more = ap non_jumps records_are_lem ∙ omega arith

  pub execute_space : event_bytes * current.events + event_bytes ≤ length trace
  execute_space = omega (arith, event-more, j.ready.few, j.ready.lent.room)

  module _ (code i : ℕ) (ec : code ≡ get_or p (at + code_from) 0) (ei : i ≡ get_or p (at + component_from) 0) where
    pub execute_inside : i < length j.env.ids
    execute_inside = omega (arith, command.inside, j.ready.among)

    abbrev pub command-here : ActJob p (record { code = code; index = i; at = at; used = current.used }) answers slots memory
    command-here =
        record {
          components = j.components;
          row = command.row;
          listed = rw ec command.listed;
          op = command.op;
          reads = rw ei command.reads;
          room = here.room;
          inside = omega (arith, execute_inside, j.ready.lent.host.few);
          hold = j.ready.lent.hold;
          fit = λ k h.
              record { source = omega (arith, (j.ready.lent.fit k h).source, j.ready.lent.host.few); digest = (j.ready.lent.fit k h).digest };
          answered = j.ready.lent.answered;
        }

    pub execute_code : Op.code command.op ≡ code
    execute_code = op-code j.components i _ command.op code command.row command-here.listed command-here.reads

    module _ (next : ℕ) (en : next ≡ next_record p at) (target : ℕ) (et : target ≡ two_at p (at + target_from)) where
      abbrev pub onward-here : OnwardJob p next (current.n + 1) target
      onward-here =
          let o = here.others in
          record {
            group = j.group;
            components = j.components;
            total = j.total;
            place = record { records = o.records; below = o.below; fits = omega (arith, o.fits); reads = rw en o.reads };
            aims = λ k. let a = command.aims (λ q. k (et ∙ q)) in (omega (arith, a.0), omega (arith, a.1));
          }

      module _ (place : ℕ) (ep : place ≡ two_at p (at + place_from)) (e : Effect) (slots' : Bytes) (memory' : List ℕ) (trace' : Bytes)
          (acted : out (end_of e.end) (state_at p (length j.env.ids) memory' slots' trace current.events e.used)
          ≡ acts j.env command.op i (state_at p (length j.env.ids) memory slots trace current.events current.used))
          (event-put : trace' ≡ put trace (event_bytes * current.events) (event code i place (result_number (end_of e.end))))
          (fit : FitAll p (length j.env.ids) memory') (same : SlotsKept memory memory')
          (d : Progress) (ed : d ≡ record { events = current.events + 1; used = e.used; end = e.end })
          (r : ProgramState) (came : Onward p j.group j.components j.total (current.n + 1) next onward-here.place target d r) where
        abbrev o : Onward p j.group j.components j.total (current.n + 1) next onward-here.place target
            (record { events = current.events + 1; used = e.used; end = e.end }) r
        o = rw ed at came

        abbrev st₀ : State
        st₀ = state_at p (length j.env.ids) memory slots trace current.events current.used

        abbrev st : State
        st = state_of p j.components memory slots trace current

        abbrev st' : State
        st' = state_of p j.components memory' slots' trace' r

        goes : out (end_of e.end) (state_at p (length j.env.ids) memory' slots' trace' (current.events + 1) e.used) ≡ step j.env command.op i place st₀
        goes = with_event_lem p j.env _ memory' slots' trace trace' command.op code i place current.events st₀ e acted execute_code event-put

        stepped : step j.env command.op (get_or p (at + component_from) 0) (two_at p (at + place_from)) st ≡ out (end_of e.end) st'
        stepped = rw (o.events, o.used) (sym (rw (j.ready.among, ei, ep) at goes))

        base : exec j.env j.ready.place.records current.n 0 st ≡ resume j.env here.others.records (current.n + 1) target (out (end_of e.end) st')
        base =
            ap (λ (rs : List Rec). exec j.env rs current.n 0 st) records_are_lem
            ∙ exec-does j.env command.op (get_or p (at + component_from) 0) (two_at p (at + place_from)) (two_at p (at + target_from)) current.n here.others.records st
            ∙ ap (λ (x : Out). resume j.env here.others.records (current.n + 1) (two_at p (at + target_from)) x) stepped
            ∙ ap (λ (t : ℕ). resume j.env here.others.records (current.n + 1) t (out (end_of e.end) st')) (sym et)

        pub executed : Executed p current vendor class answers slots memory trace j r slots' memory' trace'
        executed =
            record {
              moved =
                  record {
                    ready =
                        record {
                          lent =
                              lent-after j.env p vendor class answers slots memory trace j.ready.lent st₀ _ 1 refl refl (moves-step j.env command.op i place st₀)
                              slots' memory' trace' (ap (λ (x : Out). x.state.slots) goes) (ap (λ (x : Out). x.state.trace) goes) fit same;
                          among = j.ready.among;
                          place = o.place;
                          size = j.ready.size;
                          few = omega (arith, o.events, o.few, event-more, j.ready.few);
                        };
                    goes = λ z. base ∙ o.goes z j.env st';
                    stops = λ l. base ∙ o.stops l j.env st';
                  };
              wrote = o.events;
              further = omega (arith, o.up);
            }
