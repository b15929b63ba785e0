-- What C holds of a reply is the reply. Assumes nothing.
use Rattle.board.specs.Held.{OneLoading, OneWriting}

pub one-loading : OneLoading
one-loading x y e = λ i. record { number = (e i).number; line = (e i).line }

pub one-writing : OneWriting
one-writing x y e = λ i. record { number = (e i).number; length = (e i).length }
