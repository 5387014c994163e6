-- One token among declarations.
use Rattle.std.specs.Prelude.{ℕ, ◌+◌, ◌≡◌, Option, Some, None, Bool, true, false, ◌&&◌, List, eqb, leb, set}
use Rattle.from_verilog.specs.Next.{between}
use Rattle.from_verilog.specs.Names.{found, Added}
use Rattle.from_verilog.specs.Stages.{kind_after}
use Rattle.from_verilog.specs.States.{kind_number}
use Rattle.from_verilog.specs.declared.declarations.Loaded.{Loaded}

-- a name is new and has room, or not; a new one becomes an entry with a kind
pub record NameIs (t : List ℕ) (size most count kind from to : ℕ)
    (heads heads' words words' links links' st st' : List ℕ) (r : Bool) : Type 0 where
  pub said : r ≡ (leb (count + 1) most && eqb (found t words (between t from to) count) 0)
  pub added : r ≡ true → Added t heads heads' words words' links links' size count from to
  pub state : r ≡ true → st' ≡ set st count kind

-- one token: a name, or a mark that may change the kind of those that follow
pub record OneSays (t : List ℕ) (size most count kind code from to : ℕ)
    (heads heads' words words' links links' st st' : List ℕ) (good : Bool)
    (count' kind' : ℕ) : Type 0 where
  pub named : code ≡ 15 → NameIs t size most count kind from to heads heads' words words' links links' st st' good
      × (count' ≡ count + 1) × (kind' ≡ kind)
  pub marked : (code ≡ 15 → ⊥) → (good ≡ true) × (count' ≡ count) × (kind' ≡ kind_after kind code) × (heads' ≡ heads)
      × (words' ≡ words) ×
      (links' ≡ links) × (st' ≡ st)

abbrev pub OneIs : List ℕ → ℕ → ℕ → ℕ → ℕ → ℕ → ℕ → ℕ → List ℕ → List ℕ → List ℕ → List ℕ → List ℕ → List ℕ → List ℕ
    → List ℕ → Option Loaded → Type 0
OneIs t size most count kind code from to heads heads' words words' links links' st st' None =
    OneSays t size most count kind code from to heads heads' words words' links links' st st' false (count + 1) kind
OneIs t size most count kind code from to heads heads' words words' links links' st st' (Some r) =
    OneSays t size most count kind code from to heads heads' words words' links links' st st' true r.count
    (kind_number r.kind)
