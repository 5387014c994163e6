-- A call that is accepted: what its questions made sure of, and what its result is worth.
use Prim.Native.Nat.{ℕ}
use mathlib.Core.Path.{◌≡◌, refl, subst}
use mathlib.Core.List.{List}
use lib.Dec.{T, leb, eqb, leb→le, eqb→eq}
use lib.ListN.{length}
use Rattle.netlist.specs.declared.Sizes.{Sizes}
use Rattle.netlist.specs.Lists.{every}
use Rattle.netlist.specs.Netlist.{input_bits, output_bits, source_limits}
use Rattle.netlist.specs.Outcome.{done, ask, and_then}
use Rattle.netlist.specs.Read.{read_netlist}
use Rattle.masking.specs.Mask.{is_wanted}
use Rattle.netlist.specs.Services.{tables_long, list_good}
use Rattle.netlist.proofs.Tests.{both}
use Rattle.netlist.proofs.Questions.{done-same, ask-done, and_then-done}
use Rattle.netlist.proofs.Accepted.{accepted}
use Rattle.masking.proofs.Counted.{counted}
use Rattle.masking.proofs.MaskedText.{masked-reads}
use Rattle.fewest.specs.Choice.{is_call_code, choice}
use Rattle.fewest.specs.Fewest.{masked_under, given}
use Rattle.fewest.specs.Call.{Result, Room, result_of, room_for, deliver, fewest_outcome, fewest_call}
use Rattle.fewest.specs.Worth.{Worth}
use Rattle.fewest.proofs.Chosen.{CallInputs, chosen-inputs, chosen-unmask, chosen-clean, chosen-twins, chosen-within}
use Rattle.fewest.proofs.Floor.{given-first, given-takes, above_floor, distance}

pub worth : (s : Sizes) (tables text codes wanted : List ℕ) (budget : ℕ) (room : Room) (R : Result)
    → fewest_call (source_limits s) tables text codes wanted budget room ≡ done R
    → Worth s text codes wanted budget R × T (room_for room R)
unfolding fewest_call
worth s tables text codes wanted budget room R e =
    let k₁ = ask-done 1 (tables_long (source_limits s) tables)
    (and_then (read_netlist (source_limits s) text) (fewest_outcome codes wanted budget room)) R e in
    let k = and_then-done (read_netlist (source_limits s) text) (fewest_outcome codes wanted budget room) R k₁.1 in
    let N = k.0 in
    let j = given N codes wanted budget in
    let d = choice N codes j in
    let Q = result_of N codes wanted budget d in
    let k₁₁ = ask-done 11 (list_good is_call_code (input_bits N) codes)
    (ask 13 (list_good is_wanted (output_bits N) wanted) (ask 22 (leb 1 budget) (deliver room Q))) R k.2 in
    let k₁₃ = ask-done 13 (list_good is_wanted (output_bits N) wanted) (ask 22 (leb 1 budget) (deliver room Q)) R k₁₁.1
    in
    let k₂₂ = ask-done 22 (leb 1 budget) (deliver room Q) R k₁₃.1 in
    let k₁₄ = ask-done 14 (room_for room Q) (done Q) R k₂₂.1 in
    let A = accepted (source_limits s) text N k.1 in
    let c = both (eqb (length codes) (input_bits N)) (every is_call_code codes) k₁₁.0 in
    let w = both (eqb (length wanted) (output_bits N)) (every is_wanted wanted) k₁₃.0 in
    let l = eqb→eq (length codes) (input_bits N) c.0 in
    let b = leb→le 1 budget k₂₂.0 in
    let C : CallInputs N codes wanted = record {
      source = A.formed;
      codes_length = l;
      codes_good = c.1;
      wanted_length
          = eqb→eq _ _ w.0;
      wanted_good = w.1;
    } in
    let t = given-takes N codes wanted l budget b in
    subst (λ (R : Result). Worth s text codes wanted budget R × T (room_for room R)) (done-same Q R k₁₄.1) (
      record {
        source = N;
        read = k.1;
        number = j;
        first = given-first N codes wanted l budget b;
        inputs = refl;
        changes = refl;
        netlist = (masked_under N codes wanted d).netlist;
        back = masked-reads s (chosen-inputs C d t) (chosen-within C d t A.within);
        steps = refl;
        count = counted (chosen-inputs C d t);
        unmasks = chosen-unmask C d t;
        equal_counts = chosen-clean C d t;
        twins = chosen-twins C d t;
        least = above_floor N codes wanted l budget b;
        near = distance N codes wanted l budget b;
      },
      k₁₄.0,
    )
