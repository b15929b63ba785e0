-- `walk`: the lines that are left, on what was given so far, make the whole; a line has at least one character, so that lines can be counted.
use Rattle.std.proofs.Common.{◌≡◌, ◌+◌, ◌≤◌, length, map}
use Rattle.image.specs.Lines.{lines}
use Rattle.image.specs.IntelHex.{intel_hex}
use Rattle.image.specs.Image.{walk}
use Rattle.image.specs.Replies.{marks}
use Rattle.image.proofs.text.walk.Given as goal

abbrev pub invariant-loop-here : goal.invariant-loop-here
invariant-loop-here l =
    (l.line + length (lines l.rest.0.now) ≤ length l.text)
    × (walk 0 (map intel_hex (lines l.text)) (marks l.fn.given) ≡ walk l.line (map intel_hex (lines l.rest.0.now)) (marks l.given))

abbrev pub decreases-loop-here : goal.decreases-loop-here
decreases-loop-here l = length (lines l.rest.0.now)
