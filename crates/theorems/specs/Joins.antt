-- What is said of three blocks joined (docs/RULES.md, Joining).
use Rattle.std.specs.Prelude.{ℕ, List, ◌≡◌}
use Rattle.netlist.specs.declared.Sizes.{Sizes}
use Rattle.netlist.specs.Netlist.{Netlist, masked_limits, large_text}
use Rattle.netlist.specs.Outcome.{Outcome, done}
use Rattle.join.specs.Block.{FromMask}
use Rattle.join.specs.Call.{join_call}

-- a text with its input codes and its output codes
pub record Coded : Type 0 where
  pub text : List ℕ
  pub codes : List ℕ
  pub out_codes : List ℕ

-- that came from Mask
pub record Masked (B : Coded) : Type 0 where
  pub source : Netlist
  pub made : FromMask source B.codes B.text B.out_codes

-- the call that joins two, with the buffer's length
abbrev pub joining : Sizes → List ℕ → Coded → Coded → ℕ → Outcome (List ℕ)
joining s tables first second room
    = join_call (masked_limits s) tables first.text first.codes first.out_codes second.text second.codes room

-- the text that it delivers, with the codes that are left
abbrev pub joined : Coded → Coded → List ℕ → Coded
joined first second text = record { text = text; codes = first.codes; out_codes = second.out_codes }

-- the four calls: the first seam closed and then the second, and the second and then the first
pub record FirstSeamFirst (s : Sizes) (tables : List ℕ) (one two three : Coded) (room last : ℕ) (text : List ℕ) : Type 0
  where
    pub middle : List ℕ
    pub first : joining s tables one two room ≡ done middle
    pub second : joining s tables (joined one two middle) three last ≡ done text

pub record SecondSeamFirst (s : Sizes) (tables : List ℕ) (one two three : Coded) (room last : ℕ) (text : List ℕ)
    : Type 0
  where
    pub middle : List ℕ
    pub first : joining s tables two three room ≡ done middle
    pub second : joining s tables one (joined two three middle) last ≡ done text

pub record EitherSeamFirst (s : Sizes) (tables : List ℕ) (one two three : Coded) : Type 0 where
  -- where both orders are accepted, they deliver the same bytes
  pub same : (p q r t : ℕ) (u v : List ℕ) → FirstSeamFirst s tables one two three p q u
      → SecondSeamFirst s tables one two three r t v → u ≡ v
  -- where one order is accepted, so is the other, with a buffer that holds any text for the seam that is closed first
  pub second_first : (p last : ℕ) (u : List ℕ) → FirstSeamFirst s tables one two three p last u
      → SecondSeamFirst s tables one two three (large_text s) last u
  pub first_first : (r last : ℕ) (v : List ℕ) → SecondSeamFirst s tables one two three r last v
      → FirstSeamFirst s tables one two three (large_text s) last v

abbrev pub ThreeJoined : Type 0
ThreeJoined = (s : Sizes) (tables : List ℕ) (one two three : Coded) → Masked one → Masked two → Masked three
    → EitherSeamFirst s tables one two three
