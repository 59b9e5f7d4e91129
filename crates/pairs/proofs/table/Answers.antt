-- `pairs::table` meets its contract: filled, moved to the front, and zeros after it; or zeros. Assumes nothing.
use Rattle.pairs.proofs.Flat.{zeros-at}
use Rattle.pairs.proofs.table.Goals as goal

pub link-requires : goal.link-requires
link-requires c = zeros-at 512
