use Rattle.depot_runs.proofs.run_as.Goals as goal

pub returns-in-Install : goal.returns-in-Install
returns-in-Install c =
    rw c.in-Install.is (rw c.device_of-device.ensures at c.pitvorgas_run.ensures)

pub returns-in-Boot : goal.returns-in-Boot
returns-in-Boot c =
    rw c.in-Boot.is (rw c.device_of-device.ensures at c.pitvorgas_run-in-Boot.ensures)

pub returns-in-Program : goal.returns-in-Program
returns-in-Program c =
    rw c.in-Program.is (rw c.device_of-device.ensures at c.pitvorgas_run_program.ensures)
