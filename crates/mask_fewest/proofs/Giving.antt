-- The stages of a call: the choice that is given, question 14 and the results.
use Rattle.std.specs.Prelude as std
use Rattle.std.specs.Prelude.{Err, Ok}
use Prim.Native.Nat.{ℕ, ◌+◌, ◌≤◌}
use mathlib.Core.Path.{◌≡◌, refl, sym, ap, ◌∙◌}
use mathlib.Core.Bool.{Bool, true, false, ◌&&◌}
use mathlib.Core.List.{List, [], ◌∷◌, ◌++◌}
use native.Mathlib.Omega.{arith}
use lib.Dec.{T, leb}
use borrow.Author.Tests.{le-leb}
use lib.ListN.{length, set, drop, get_or-append}
use lib.Seq.{sets, sets-eq}
use Rattle.netlist.specs.declared.Refusal.{Refusal}
use Rattle.netlist.specs.Refusal.{number_of}
use Rattle.netlist.specs.Lists.{every, sum}
use Rattle.netlist.specs.Netlist.{Netlist, input_bits, small_wires}
use Rattle.netlist.specs.Outcome.{Outcome, refused, done}
use Rattle.netlist.specs.Write.{write_netlist}
use Rattle.masking.specs.Mask.{mask_netlist}
use Rattle.netlist.specs.Services.{stands_for, holds, Answers}
use Rattle.masking.specs.Calls.{masked_text, deliver_outcome}
use Rattle.netlist.specs.Table.{Tables, tables, Wired}
use Rattle.netlist.proofs.Tests.{both, on_bool, clash}
use Rattle.netlist.proofs.Puts.{wired-same, length-gates}
use Rattle.mask.specs.Whole.{MaskAnswers, Source as MaskSource}
use Rattle.fewest.specs.Choice.{Agree, choice, chosen_gates}
use Rattle.fewest.specs.Fewest.{given as given_number}
use Rattle.fewest.specs.Call.{room_for, deliver}
use Rattle.fewest.proofs.Chosen.{input-ways}
use Rattle.fewest.proofs.Same.{gates-same}
use Rattle.fewest.proofs.Floor.{given-takes, length-ways}
use Rattle.fewest.specs.Advance.{choice_of}
use Rattle.fewest.specs.declared.search.Tally.{Tally}
use Rattle.fewest.specs.Try.{Fits}
use Rattle.fewest.specs.Search.{Source, Found}
use Rattle.fewest.specs.Apply.{Swapped, Chosen}
use Rattle.fewest.proofs.Applying.{gates-chosen, codes-chosen}
use Rattle.mask_fewest.specs.Stages.{Chose, given, room, FewestAnswers}
use Rattle.netlist.specs.declared.Sizes.TheVariants.{Whole}

-- ---- a netlist that was read

some_bits : (xs : List ℕ) → 1 ≤ length xs → T (every (leb 1) xs) → 1 ≤ sum xs
some_bits [] s t = absurd (omega arith)
some_bits (x ∷ xs) s t = let h = lib.Dec.leb→le 1 x (both (leb 1 x) (every (leb 1) xs) t).0 in omega arith

module _ {t : Tables} {count : ℕ} {codes wanted : List ℕ} {W : ℕ} {N : Netlist} (Q : Source t count codes wanted W N)
  where
    pub places : length codes + count ≡ W
    places =
        let g = Q.formed.gate_count in
        let h = Q.holds.gates in
        let l = ap length h ∙ length-gates t count in
        let i = Q.holds.ins in
        let w = Q.holds.wires in
        let b = Q.formed.inputs_fit in
        omega arith

    pub some : 1 ≤ length codes
    some = let i = Q.holds.ins in let b = some_bits N.inputs Q.formed.some_input Q.formed.inputs_positive in omega arith

    pub outs : length wanted ≤ W
    outs = let o = Q.holds.outs in let w = Q.holds.wires in let b = Q.formed.outputs_fit in omega arith

pub fits-fronts : {t : Tables} {count : ℕ} {codes wanted : List ℕ} {W : ℕ} {N : Netlist} (ys bs ms ws : List ℕ)
    → Source t count codes wanted W N
    → Wired t W count → W ≤ small_wires Whole → length ys ≡ W → length bs ≡ W → length ms ≡ W → length ws ≡ W
    → Fits t count codes wanted ys bs ms ws
fits-fronts ys bs ms ws Q H few y b m w = record {
  wired = wired-same m H;
  places = places Q ∙ sym m;
  some = some Q;
  outs = let o = outs Q in omega arith;
  small = omega arith;
  ways = y ∙ sym m;
  bests = b ∙ sym m;
  lowest = w ∙ sym m;
}

-- the choice that was found, put to use
pub chose : {o₀ o r : List ℕ} {count : ℕ} {codes wanted : List ℕ} {W budget : ℕ} (N : Netlist) (front best₀ : List ℕ)
    {ys₀ ys : List ℕ} {tal : Tally}
    → Source (tables o₀ r) count codes wanted W N → 1 ≤ budget → length front ≡ W → Found N codes wanted budget front
    tal
    → Swapped r count (drop (length codes) (front ++ drop W best₀)) o₀ o → Chosen codes (front ++ drop W best₀)
    (length codes) ys₀ ys → length codes ≤ length ys₀
    → Chose N codes wanted budget (tables o r) count ys tal
chose {o₀} {o} {r} {count} {codes} {wanted} {W} {budget} N front best₀ Q one lf F S C ly =
    let d = choice N codes (given_number N codes wanted budget) in
    let best = front ++ drop W best₀ in
    let w = Q.holds.wires in
    let l : length codes ≡ input_bits N = sym Q.holds.ins in
    let pl = places Q in
    let hl : length N.gates ≡ count = ap length Q.holds.gates ∙ length-gates (tables o₀ r) count in
    let lw = length-ways codes N.gates in
    let agree : Agree W (choice_of best) d = λ p h. get_or-append front (drop W best₀) 0 p (omega arith)
    ∙ F.choice p (omega arith) in
    let tk = given-takes N codes wanted l budget one in
    record {
      gates = gates-chosen (length codes) best count S ∙ ap (chosen_gates (choice_of best) (length codes))
          (sym Q.holds.gates)
          ∙ gates-same (choice_of best) d (length codes) N.gates (λ q a b. agree q (omega arith));
      inputs = codes-chosen codes best d C ly (λ p h. agree p (omega arith))
          (λ v h. let x = tk v (omega arith) in let e = input-ways codes N.gates v h in omega arith);
      changes = F.changes;
      floor = F.floor;
    }

-- ---- the results in their buffers

-- a list laid over a buffer's front
pub laid-front : (n : ℕ) (s d : List ℕ) → length s ≡ n → n ≤ length d → s ++ drop n d ≡ sets d 0 s
laid-front n s d e h =
    let z : 0 + length s ≡ n = omega arith in
    sym (sets-eq s d 0 (omega arith) ∙ ap (λ (k : ℕ). s ++ drop k d) z)

pub two-set : (ts : List ℕ) (a b : ℕ) → 2 ≤ length ts → set (set ts 0 a) 1 b ≡ sets ts 0 (a ∷ b ∷ [])
two-set [] a b h = absurd (omega arith)
two-set (x ∷ []) a b h = absurd (omega arith)
two-set (x ∷ y ∷ ts) a b h = refl

-- an answer is no refusal and a result at once
not-done : {w : std.Result ℕ Refusal} (q : Refusal) (n : ℕ) → w ≡ Err q → stands_for (λ n. n) w ≡ done n → ⊥
not-done q n p e = let a : ◌≡◌ {A = Outcome ℕ} (refused (number_of q)) (done n) = rw p at e in clash (cc)

not-refused : {w : std.Result ℕ Refusal} (q n : ℕ) → w ≡ Ok n → stands_for (λ n. n) w ≡ refused q → ⊥
not-refused q n p e = let a : ◌≡◌ {A = Outcome ℕ} (done n) (refused q) = rw p at e in clash (cc)

room-is : (a b c d : Bool) → b ≡ true → d ≡ true → a && b && c && d ≡ a && c
room-is true b true d p q = rw (p, q) refl
room-is true b false d p q = rw p refl
room-is false b c d p q = refl

module _ (N : Netlist) (codes wanted : List ℕ) (r : Tally) (is ts : List ℕ) {e x f y : List ℕ}
    {w : std.Result ℕ Refusal}
    (hi : length codes ≤ length is) (ht : 2 ≤ length ts)
    (A : MaskAnswers (deliver_outcome (length e) (length f) (masked_text (mask_netlist N codes wanted))) e x f y w)
  where
    same-room : room_for (room e is f ts) (given N codes wanted r)
        ≡ (holds (length e) (write_netlist (mask_netlist N codes wanted).netlist) && holds (length f)
        (mask_netlist N codes wanted).codes)
    same-room =
        room-is (holds (length e) (write_netlist (mask_netlist N codes wanted).netlist)) _
        (holds (length f) (mask_netlist N codes wanted).codes) _
        (le-leb (length codes) (length is) hi) (le-leb 2 (length ts) ht)

    pub give-refused : {q : Refusal} → w ≡ Err q
        → FewestAnswers (deliver (room e is f ts) (given N codes wanted r)) e x is is f y ts ts (Err q)
    give-refused {q} p =
        let text = write_netlist (mask_netlist N codes wanted).netlist in
        on_bool (holds (length e) (write_netlist (mask_netlist N codes wanted).netlist) && holds (length f)
        (mask_netlist N codes wanted).codes)
        (λ z. let a : stands_for (λ n. n) w ≡ done (length text) = (let t = A.text.answer in rw z at t)
        in absurd (not-done q (length text) p a))
        (λ z. let k = same-room ∙ z in
        let A' : Answers (refused 14) e x w = rw z at A.text in
        let c : y ≡ sets f 0 [] = rw z at A.codes in
        rw k (record { text = rw p at A'; inputs = refl; outputs = c; tally = refl }))

    pub give-done : {n : ℕ} {is' ts' : List ℕ} → w ≡ Ok n → is' ≡ sets is 0 codes → ts'
        ≡ sets ts 0 (r.changes ∷ r.floor ∷ [])
        → FewestAnswers (deliver (room e is f ts) (given N codes wanted r)) e x is is' f y ts ts' (Ok n)
    give-done {n} p i t =
        let text = write_netlist (mask_netlist N codes wanted).netlist in
        on_bool (holds (length e) (write_netlist (mask_netlist N codes wanted).netlist) && holds (length f)
        (mask_netlist N codes wanted).codes)
        (λ z. let k = same-room ∙ z in
        let A' : Answers (done text) e x w = rw z at A.text in
        let c : y ≡ sets f 0 (mask_netlist N codes wanted).codes = rw z at A.codes in
        rw k (record { text = rw p at A'; inputs = i; outputs = c; tally = t }))
        (λ z. let a : stands_for (λ n. n) w ≡ refused 14 = (let t = A.text.answer in rw z at t)
        in absurd (not-refused 14 n p a))

pub source-codes : {t : Tables} {count W n n' m : ℕ} {ins outs : List ℕ} {N : Netlist} → n' ≡ n
    → MaskSource t count W n m ins outs N
    → MaskSource t count W n' m ins outs N
source-codes e h = rw e h
