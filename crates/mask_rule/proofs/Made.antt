-- What a masked text is made of that a call of Mask gives, and that it reads back.
use Prim.Native.Nat.{ℕ, ◌≤◌}
use mathlib.Core.Path.{◌≡◌, sym, ap, ◌∙◌}
use mathlib.Core.Bool.{Bool, true, ◌&&◌}
use mathlib.Core.List.{List}
use lib.Dec.{eqb, leb, eqb→eq, leb→le}
use lib.ListN.{length}
use Rattle.netlist.specs.declared.Sizes.{Sizes}
use Rattle.netlist.specs.Lists.{every}
use Rattle.netlist.specs.Netlist.{Netlist, input_bits, output_bits, source_limits, masked_limits}
use Rattle.netlist.specs.Outcome.{done}
use Rattle.netlist.specs.Read.{read_netlist}
use Rattle.netlist.specs.Write.{write_netlist}
use Rattle.masking.specs.Mask.{is_input_code, is_wanted, mask_netlist}
use Rattle.masking.specs.Calls.{MaskedText, masked_text, mask_outcome, mask_call}
use Rattle.netlist.specs.Services.{tables_long, list_good}
use Rattle.netlist.proofs.Tests.{both, true-T}
use Rattle.netlist.proofs.Questions.{done-same, ask-done, and_then-done}
use Rattle.netlist.proofs.Accepted.{accepted}
use Rattle.masking.proofs.MaskInputs.{MaskInputs, mask-inputs}
use Rattle.masking.proofs.MaskedText.{masked-reads}

-- a list that question 11 or 13 admits has one entry for each bit
pub codes-length : (p : ℕ → Bool) (n : ℕ) (list : List ℕ) → list_good p n list ≡ true → length list ≡ n
codes-length p n list g = eqb→eq (length list) n (both (eqb (length list) n) (every p list)
    (true-T (list_good p n list) g)).0

-- the source, and the facts that questions 11, 13 and 14 give
pub record Made (s : Sizes) (text codes wanted : List ℕ) (code_room : ℕ) (R : MaskedText) : Type 0 where
  pub source : Netlist
  pub read : read_netlist (source_limits s) text ≡ done source
  pub inputs : MaskInputs source codes wanted
  pub room : length (mask_netlist source codes wanted).codes ≤ code_room
  pub same : masked_text (mask_netlist source codes wanted) ≡ R

pub made : (s : Sizes) (tables text codes wanted : List ℕ) (text_room code_room : ℕ) (R : MaskedText)
    → mask_call (source_limits s) tables text codes wanted text_room code_room ≡ done R
    → Made s text codes wanted code_room R
unfolding mask_call
made s tables text codes wanted text_room code_room R e =
    let one = ask-done 1 (tables_long (source_limits s) tables) _ R e in
    let two = and_then-done (read_netlist (source_limits s) text) (mask_outcome codes wanted text_room code_room) R
    one.1 in
    let N = two.0 in
    let M = mask_netlist N codes wanted in
    let c11 = ask-done 11 (list_good is_input_code (input_bits N) codes) _ R two.2 in
    let c13 = ask-done 13 (list_good is_wanted (output_bits N) wanted) _ R c11.1 in
    let c14 = ask-done 14 (leb (length (write_netlist M.netlist)) text_room && leb (length M.codes) code_room) _ R c13.1
    in
    record {
      source = N;
      read = two.1;
      inputs = mask-inputs (accepted (source_limits s) text N two.1).formed c11.0 c13.0;
      room =
          let fits = leb (length (write_netlist M.netlist)) text_room in
          leb→le (length M.codes) code_room (both fits (leb (length M.codes) code_room) c14.0).1;
      same = done-same _ _ c14.1;
    }

-- the text reads back as the masked netlist
pub made-back : {s : Sizes} {text codes wanted : List ℕ} {code_room : ℕ} {R : MaskedText}
    (k : Made s text codes wanted code_room R)
    → read_netlist (masked_limits s) R.text ≡ done (mask_netlist k.source codes wanted).netlist
made-back {s} {text} k =
    ap (λ (Q : MaskedText). read_netlist (masked_limits s) Q.text) (sym k.same)
    ∙ masked-reads s k.inputs (accepted (source_limits s) text k.source k.read).within
