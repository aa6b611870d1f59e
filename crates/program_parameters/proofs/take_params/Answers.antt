use Rattle.program_parameters.proofs.EntryLaws.{step-length, step_in}
use Rattle.program_parameters.proofs.ParamLaws.{uri-ahead, uri-taken, source-ahead, source-taken, digest-ahead, digest-taken, size-taken, all-taken}
use Rattle.program_parameters.proofs.take_params.Goals as goal

pub past-a-requires : goal.past-a-requires
past-a-requires c = uri-ahead _ _ _ c.requires

pub past-b-requires : goal.past-b-requires
past-b-requires c = source-ahead _ _ _ c.requires _ c.past-a.ensures

pub past-c-requires : goal.past-c-requires
past-c-requires c = digest-ahead _ _ _ c.requires _ c.past-a.ensures _ c.past-b.ensures

pub place_of-requires : goal.place_of-requires
place_of-requires c = step-length _ _ _ _ _ _ _ (uri-taken _ _ _ c.requires _ c.past-a.ensures)

pub length_of-requires : goal.length_of-requires
length_of-requires c = step-length _ _ _ _ _ _ _ (uri-taken _ _ _ c.requires _ c.past-a.ensures)

pub source_of-requires : goal.source_of-requires
source_of-requires c =
    step_in _ _ _ _ _ _ _ (source-taken _ _ _ c.requires _ c.past-a.ensures _ c.past-b.ensures) c.requires.fits

pub place_of-requires-2 : goal.place_of-requires-2
place_of-requires-2 c =
    step-length _ _ _ _ _ _ _
    (digest-taken _ _ _ c.requires _ c.past-a.ensures _ c.past-b.ensures _ c.past-c.ensures)

pub size_of-requires : goal.size_of-requires
size_of-requires c =
    step_in _ _ _ _ _ _ _ (size-taken _ _ _ c.requires _ c.past-a.ensures _ c.past-b.ensures _ c.past-c.ensures) c.requires.fits

pub returns : goal.returns
returns c x =
    all-taken _ _ _ x _ c.past-a.ensures _ c.past-b.ensures _ c.past-c.ensures
    _ _ _ _ _ c.place_of.ensures c.length_of.ensures
    c.source_of.ensures c.place_of-2.ensures c.size_of.ensures
