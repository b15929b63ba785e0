-- `load_cells`: a part of the room, all of it not given yet.
use Rattle.std.proofs.Common.{◌*◌, None, arith}
use Rattle.std.proofs.lemmas.List.{take-replicate}
use Rattle.image.proofs.filling.load_cells.Goals as goal

pub load-requires : goal.load-requires
load-requires c = take-replicate (2 * c.min-size.result) 1024 None (omega arith)
