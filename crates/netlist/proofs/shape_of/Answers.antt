-- `netlist::shape_of` meets its contract: the callees' results make the record. Assumes nothing.
use Rattle.netlist.specs.File.{shape_of}
use Rattle.netlist.proofs.shape_of.Goals as goal

pub returns : goal.returns
unfolding shape_of
returns c = cc
