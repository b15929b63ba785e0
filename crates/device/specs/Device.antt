-- The sizes of a chip: 01, "The sizes belong to the device and are named with it".
use Rattle.std.specs.Prelude.{ℕ, ◌-◌, ◌*◌, ◌%◌, ◌^◌, Bool, cond, ◌&&◌, ◌||◌, ◌==◌, nat_le, nat_lt}

-- instruction words and the bits of one, data ROM cells and the bits of one, RAM cells, stack cells
pub record Device : Type 0 where
  pub words : ℕ
  pub word_width : ℕ
  pub cells : ℕ
  pub cell_width : ℕ
  pub ram : ℕ
  pub stack : ℕ

-- "512 instruction words of 23 bits, 512 data ROM cells of 13 bits, 128 RAM cells of 16 bits, stack of 4"
abbrev pub upd77p20 : Device
upd77p20 = record { words = 512; word_width = 23; cells = 512; cell_width = 13; ram = 128; stack = 4 }

-- 02, E10: "2048 instruction words of 24 bits, 1024 data cells of 16, 256 RAM cells"; 002, section 2, has a stack of 4
abbrev pub upd77c25 : Device
upd77c25 = record { words = 2048; word_width = 24; cells = 1024; cell_width = 16; ram = 256; stack = 4 }

-- the chip of a desk: the larger one or not
abbrev pub chip : Bool → Device
chip large = cond large upd77c25 upd77p20

-- not "a lent image or RAM is not 512, 512, 128 long" (refusal 1): the lengths of program, data ROM and RAM
abbrev pub lengths_fit : Device → ℕ → ℕ → ℕ → Bool
lengths_fit device words cells ram = words == device.words && cells == device.cells && ram == device.ram

-- the least number that a word, and a data ROM cell, is too narrow for
abbrev pub word_limit : Device → ℕ
word_limit device = 2 ^ device.word_width

abbrev pub cell_limit : Device → ℕ
cell_limit device = 2 ^ device.cell_width

-- not "the data ROM cell at RP is 8192 or more" (refusal 7); every cell that can be lent has 16 bits: 02, E10, "the cells are full width"
abbrev pub cell_fits : Device → ℕ → Bool
cell_fits device cell = nat_le 16 device.cell_width || nat_lt cell (cell_limit device)

-- "RO is the cell times 8": the cell's bits stand at the top of 16, which a cell of the uPD77C25 fills
abbrev pub cell_value : Device → ℕ → ℕ
cell_value device cell = cell % cell_limit device * 2 ^ (16 - device.cell_width)
