-- What an accepted call delivers.
use Prim.Native.Nat.{ℕ}
use mathlib.Core.Path.{◌≡◌, sym, ◌∙◌}
use mathlib.Core.Bool.{Bool}
use mathlib.Core.List.{List}
use Rattle.netlist.specs.declared.Sizes.{Sizes}
use Rattle.netlist.specs.Netlist.{Netlist, masked_limits}
use Rattle.netlist.specs.Outcome.{done}
use Rattle.netlist.specs.Read.{read_netlist}
use Rattle.netlist.proofs.Questions.{done-same}
use Rattle.netlist.proofs.Size.{roomy-large}
use Rattle.join.specs.Call.{join_call}
use Rattle.join.specs.Block.{Block, BlockText}
use Rattle.join.specs.Delivered.{Delivered}
use Rattle.join.proofs.Runs.{joined-outputs}
use Rattle.join.proofs.Calls.{joined, call-seam, joined-reads}
use Rattle.join.proofs.BlockTexts.{mask-text, join-text}
use Rattle.join.proofs.ThreeTexts.{other-order, order-back}

module _ (s : Sizes) (tables first codes out_codes second inner : List ℕ) (room : ℕ) (text : List ℕ)
    (e : join_call (masked_limits s) tables first codes out_codes second inner room ≡ done text) where
  -- the block that the text of two blocks reads as
  block_of : {f g : List Bool → List Bool} {out_codes' : List ℕ} {J : Netlist} → BlockText s f codes first out_codes
      → BlockText s g inner second out_codes'
      → read_netlist (masked_limits s) text ≡ done J → Block (λ x. g (f x)) codes J out_codes'
  block_of {J = J} K L r =
      let T = join-text tables room K L e in
      let z : T.netlist ≡ J = done-same T.netlist J (sym T.read ∙ r) in
      rw z at T.block

  pub call-delivers : Delivered s tables first codes out_codes second inner room text
  call-delivers =
      let J = joined (masked_limits s) tables first codes out_codes second inner room text e in
      let back = joined-reads (masked_limits s) tables first codes out_codes second inner room (roomy-large s) J in
      record {
        first_is = J.A;
        first_read = J.one.read;
        second_is = J.B;
        second_read = J.two.read;
        written = J.text;
        back = back;
        computes = joined-outputs (call-seam (masked_limits s) tables first codes out_codes second inner room J);
        outputs = λ N N' out_codes' F G. (block_of (mask-text F J.one.read) (mask-text G J.two.read) back).computes;
        counts = λ N N' out_codes' F G. (block_of (mask-text F J.one.read) (mask-text G J.two.read) back).clean;
        block = λ f g out_codes' K L. join-text tables room K L e;
        later_seam = λ f g one one_out_codes two two_codes p K L d. other-order K L tables second inner room p first
            text d e;
        earlier_seam = λ f g two two_out_codes three three_codes p K L d. order-back K L tables three three_codes room p
            second text d e;
      }
