-- `give`: what is left to give, on what was given so far, makes the whole.
use Rattle.std.proofs.Common.{◌≡◌}
use Rattle.image.specs.Hexadecimal.{bytes_of}
use Rattle.image.specs.Image.{give}
use Rattle.image.specs.Replies.{marks}
use Rattle.image.proofs.text.give.Given as goal

abbrev pub invariant-loop-byte : goal.invariant-loop-byte
invariant-loop-byte l =
    (goal.iterator-loop-byte).can_next l.byte-iterator
    × (goal.iterator-loop-byte).is_finite l.byte-iterator
    × (give l.start (bytes_of l.characters) (marks l.fn.given) ≡ give l.address (bytes_of l.byte-iterator.0.now) (marks l.given))
