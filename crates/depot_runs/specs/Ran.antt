-- What is run on a described device.
use Rattle.rules.specs.declared.answers.Group.TheVariants.{Install, Boot}
use Rattle.rules.specs.Bytes.{Bytes}
use Rattle.rules.specs.Got.{Got}
use Rattle.rules.specs.Run.{Input, Ran, run_envelope}
use Rattle.rules.specs.ProgramRun.{run_program}
use Rattle.pitvorgas_answers.specs.declared.Device.{Device}
use Rattle.device_description.specs.declared.Scenario.{Scenario}
use Rattle.depot_run_types.specs.declared.Run as The
use Rattle.depot_run_types.specs.declared.Run.TheVariants as Run

-- the device of a description
abbrev pub device_of : Scenario → Device
device_of d = record { vendor = d.vendor; class_id = d.class; number = d.number; event = d.event }

-- the job
abbrev pub ran_as : The.Run → Bytes → Input → Got Ran
ran_as Run.Install s i = run_envelope s Install i
ran_as Run.Boot s i = run_envelope s Boot i
ran_as Run.Program s i = run_program s i
