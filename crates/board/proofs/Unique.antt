-- An ending says each part of the reply, the record and the RAM; the other contracts are equations.
-- Assumes nothing.
use mathlib.Core.Path.{sym, ap, ◌∙◌}
use Rattle.machine.specs.Replies.{Ending}
use Rattle.image.specs.Image.{Loaded}
use Rattle.preset.specs.Preset.{Written}
use Rattle.board.specs.Unique.{OneReply, OneTaken, OneBuilt, OneLoad, OneWritten, OneRecord}

pub one-reply : OneReply
one-reply r program rom ram kind value x y q₁ q₂ ram₁ ram₂ e₁ e₂ =
    let p = e₁ ∙ sym e₂ in
    ((λ i. record { number = (p i).number; words = (p i).words; value = (p i).value }), ap (λ (e : Ending). e.registers) p, ap (λ (e : Ending). e.ram) p)

pub one-taken : OneTaken
one-taken w x y e₁ e₂ = e₁ ∙ sym e₂

pub one-built : OneBuilt
one-built rows x y e₁ e₂ = e₁ ∙ sym e₂

pub one-load : OneLoad
one-load left x y a b e₁ e₂ =
    let p = e₁ ∙ sym e₂ in
    ((λ i. record { number = (p i).number; line = (p i).line }), ap (λ (l : Loaded). l.image) p)

pub one-written : OneWritten
one-written ram buffer x y a b e₁ e₂ =
    let p = e₁ ∙ sym e₂ in
    ((λ i. record { number = (p i).number; length = (p i).length }), ap (λ (w : Written). w.buffer) p)

pub one-record : OneRecord
one-record line x y e₁ e₂ = e₁ ∙ sym e₂
