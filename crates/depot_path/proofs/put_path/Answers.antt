use Rattle.depot_path.specs.Path.{path_text}
use Rattle.depot_path.proofs.put_path.Goals as goal

pub returns : goal.returns
unfolding path_text
returns c = c.put_within.ensures
