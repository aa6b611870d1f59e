use Rattle.conformance_cases.specs.Fields.{device_of}
use Rattle.conformance_cases.proofs.fields.device_of.Goals as goal

pub returns : goal.returns
unfolding device_of
returns c =
    rw (c.sixteen-vendor.ensures, c.sixteen-class.ensures, c.four.ensures.0)
