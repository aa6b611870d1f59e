-- What C gives a job, as the rules have it.
use Rattle.std.specs.Prelude.{Bool, true, false}
use Rattle.rules.specs.declared.answers.Group.{Group}
use Rattle.rules.specs.declared.answers.Group.TheVariants.{Install, Boot}
use Rattle.rules.specs.declared.controller.Controller.{Controller}
use Rattle.pitvorgas_answers.specs.declared.Device.{Device}

abbrev pub controller_of : Device → Controller
controller_of d = record { vendor = d.vendor; class = d.class_id; number = d.number; event = d.event }

abbrev pub group_of : Bool → Group
group_of true = Boot
group_of false = Install
