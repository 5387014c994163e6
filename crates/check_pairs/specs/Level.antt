-- The counts of wires and of pairs of wires, and whether a pair has those of its base.
use Rattle.std.specs.Prelude.{ℕ, ◌+◌, ◌*◌, ◌<◌, Bool, List, ◌≡◌, Option, Some, get_or}
use Rattle.std.specs.Option.{unwrap_or}
use Rattle.std.specs.Int.Bits.{bit_and}
use Rattle.netlist.specs.Netlist.{Netlist}
use Rattle.leak_search.specs.Paint.{codes_of, paint}
use Rattle.leak_search.specs.Base.{part, count_in}
use Rattle.leak_search.specs.Block.{ones, ones_of, nibbles_of}
use Rattle.check_pairs.specs.Pairs.{both_count}

-- for each setting, the count of each wire, and that of each two wires together: how often both are one
pub record Counts : Type 0 where
  pub one : ℕ → ℕ → ℕ
  pub both : ℕ → ℕ → ℕ → ℕ

-- those of a netlist in the setting that the paints give to number s, or in its base
abbrev pub counts_of : Netlist → Bool → List ℕ → Counts
counts_of N secrets paints = record {
  one = count_in N secrets paints;
  both = λ u v s. both_count N (codes_of paints) u v (part secrets (codes_of paints) (paint paints s));
}

-- those of two words' lanes
abbrev pub both_ones : List ℕ → ℕ → ℕ → ℕ → ℕ
both_ones words u v s = ones (bit_and (get_or words u 0) (get_or words v 0)) s

-- those that a block's words hold
abbrev pub held_in : List ℕ → Counts
held_in words = record { one = ones_of words; both = both_ones words }

-- those of its bases, of single wires as numbers in nibbles
abbrev pub held_base : List ℕ → List ℕ → Counts
held_base bases base = record { one = nibbles_of base; both = both_ones bases }

-- those from setting S on
abbrev pub on_from : ℕ → Counts → Counts
on_from S c = record { one = λ w s. c.one w (S + s); both = λ u v s. c.both u v (S + s) }

-- the same counts in sixteen settings
pub record Alike (c d : Counts) : Type 0 where
  pub one : (w s : ℕ) → s < 16 → c.one w s ≡ d.one w s
  pub both : (u v s : ℕ) → s < 16 → c.both u v s ≡ d.both u v s

-- in setting s, the counts of the first wire, of the second and of both together are those of the base
pub record Level (base counts : Counts) (u v s : ℕ) : Type 0 where
  pub first : base.one u s ≡ counts.one u s
  pub second : base.one v s ≡ counts.one v s
  pub both : base.both u v s ≡ counts.both u v s

-- so for pair j of a list
abbrev pub LevelAt : Counts → Counts → List ℕ → ℕ → ℕ → Type 0
LevelAt base counts ws j s = Level base counts (get_or ws (2 * j) 0) (get_or ws (2 * j + 1) 0) s

-- of n pairs, the first that is not level in some setting below S is found; or none, and all are
pub record FirstUneven (level : ℕ → ℕ → Type 0) (n S : ℕ) (found : Option ℕ) : Type 0 where
  pub before : (j : ℕ) → j < unwrap_or found n → (s : ℕ) → s < S → level j s
  pub inside : (k : ℕ) → found ≡ Some k → k < n
  pub bad : (k : ℕ) → found ≡ Some k → ((s : ℕ) → s < S → level k s) → ⊥
