-- From one dialect to the other and back: the netlist stays the same.
use Prim.Native.Nat.{ℕ}
use mathlib.Core.Path.{◌≡◌}
use mathlib.Core.Bool.{true}
use mathlib.Core.List.{List}
use Rattle.netlist.specs.declared.Limits.{Limits}
use Rattle.netlist.specs.Netlist.{Netlist}
use Rattle.netlist.specs.Outcome.{done, ask}
use Rattle.netlist.specs.Read.{read_netlist}
use Rattle.netlist.specs.Write.{write_netlist}
use Rattle.netlist.specs.Services.{tables_long, delivered}
use Rattle.netlist.proofs.Accepted.{accepted}
use Rattle.netlist.proofs.Size.{Roomy, reads-back, rewritten}
use Rattle.dialect.specs.OldRead.{read_old}
use Rattle.dialect.specs.OldWrite.{has_old_form, write_old}
use Rattle.dialect.specs.OldCalls.{from_old_call, to_old_call}
use Rattle.dialect.proofs.OldAccepted.{old-accepted}
use Rattle.dialect.proofs.OldRoundTrip.{old-round-trip}

module _ {L : Limits} (R : Roomy L) (N : Netlist) (t : List ℕ) where
  module _ (e : read_old L t ≡ done N) where
    -- an old text, converted, reads as the same netlist
    pub fashion-reads : read_netlist L (write_netlist N) ≡ done N
    fashion-reads = let a = (old-accepted L t N e).accepted in reads-back R N a.formed a.within

    -- and converted again
    pub old-again : read_old L (write_old N) ≡ done N
    old-again = let a = old-accepted L t N e in old-round-trip R N a.accepted a.form

    pub to-old-again : (tables : List ℕ) (room : ℕ) → to_old_call L tables (write_netlist N) room
        ≡ ask 1 (tables_long L tables) (delivered room (write_old N))
    unfolding to_old_call
    to-old-again tables room = rw (fashion-reads, (old-accepted L t N e).form)

  module _ (e : read_netlist L t ≡ done N) (f : has_old_form N ≡ true) where
    -- a text of Fashion, converted, reads as the same netlist
    pub old-reads : read_old L (write_old N) ≡ done N
    old-reads = old-round-trip R N (accepted L t N e) f

    -- and converted again
    pub fashion-again : read_netlist L (write_netlist N) ≡ done N
    fashion-again = rewritten R N t e

    pub from-old-again : (tables : List ℕ) (room : ℕ) → from_old_call L tables (write_old N) room
        ≡ ask 1 (tables_long L tables) (delivered room (write_netlist N))
    unfolding from_old_call
    from-old-again tables room = rw old-reads
