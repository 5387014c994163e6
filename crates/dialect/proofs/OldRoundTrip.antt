-- What is written in the older dialect is read back.
use Prim.Native.Nat.{ℕ, zero, suc, ◌+◌, ◌-◌, ◌^◌, ◌≤◌, ◌<◌}
use mathlib.Core.Path.{◌≡◌, refl, sym, ap, ap₂, ◌∙◌, subst}
use mathlib.Core.Bool.{true, ◌&&◌, ◌||◌}
use mathlib.Core.List.{List, [], ◌∷◌, ◌++◌, map, append_assoc}
use mathlib.Core.Option.{some}
use native.Mathlib.Nat.{lt_of_lt_of_le, le_trans}
use native.Mathlib.Omega.{arith}
use lib.Dec.{T, eqb, leb, leb→le, lit≤, lit<}
use lib.ListN.{length, drop, length-append, length-map, get_or}
use borrow.Author.Tests.{eq-eqb, ne_eqb, le-leb, leb-true}
use Rattle.netlist.specs.declared.Gate.{Gate}
use Rattle.netlist.specs.declared.Gate.TheVariants.{Xor, And, Inv, Eqw, Eq}
use Rattle.netlist.specs.declared.Limits.{Limits}
use Rattle.netlist.specs.Lists.{every}
use Rattle.netlist.specs.Text.{space, lf, cr, at_lf, word_lines}
use Rattle.netlist.specs.Number.{decimal, max_digits}
use Rattle.netlist.specs.Netlist.{Netlist, input_bits, output_bits}
use Rattle.netlist.specs.Outcome.{done}
use Rattle.netlist.specs.Read.{byte_allowed, bytes_allowed, gate_lines, header_of, WellFormed}
use Rattle.netlist.specs.Write.{line, gate_words, gate_text, decimals, write_netlist}
use Rattle.netlist.proofs.Tests.{clash, All, empty, each, all_map, all_tail, both, both_true, is_true}
use Rattle.netlist.proofs.Words.{Inner, Word, word, word_lines-line, word_lines-blank}
use Rattle.netlist.proofs.LineEnds.{allowed-step}
use Rattle.netlist.proofs.Decimal.{Digit, decimal-digits, decimal-filled, decimal-of}
use Rattle.netlist.proofs.Lines.{Fits, NumbersFit, numbers_of, written-lines, written-allowed}
use Rattle.netlist.proofs.RoundTrip.{numbers-below}
use Rattle.netlist.proofs.Accepted.{Accepted, parts}
use Rattle.netlist.proofs.Size.{Roomy, reads-back, written-within}
use Rattle.dialect.specs.OldHeader.{parties, input_values, output_values, old_header}
use Rattle.dialect.specs.OldRead.{old_line, old_opening, read_old}
use Rattle.dialect.specs.OldWrite.{is_old_gate, has_old_form, party_bits, write_old}
use Rattle.dialect.specs.declared.Parties.{Parties}

-- ---- a line of numbers

digit-inner : (b : ℕ) → Digit b → Inner b
digit-inner b d =
    let k = both_true (leb 48 b) (leb b 57) d in
    let l = leb-true 48 b k.0 in
    record {
      not_space = rw (ne_eqb b space (λ e. omega arith), ne_eqb b cr (λ e. omega arith));
      not_end
          = ne_eqb b lf (λ e. omega arith);
    }

digits_of : {n : ℕ} → Fits n → All Digit (decimal n)
digits_of h = decimal-digits (decimal-of (lt_of_lt_of_le h (lit≤ tt)))

decimal-word : {n : ℕ} → Fits n → Word (decimal n)
decimal-word h = go (decimal-filled (decimal-of (lt_of_lt_of_le h (lit≤ tt)))) (digits_of h)
  where
    go : {w : List ℕ} → 0 < length w → All Digit w → Word w
    go l empty = absurd (omega arith)
    go l (each d ds) = word (all_map digit-inner (each d ds))

decimals-words : {xs : List ℕ} → All Fits xs → All Word (decimals xs)
decimals-words empty = empty
decimals-words (each p ps) = each (decimal-word p) (decimals-words ps)

-- the lines of a text that begins with such a line
numbers-line : (x : ℕ) (xs rest : List ℕ) → All Fits (x ∷ xs) → word_lines (line (decimals (x ∷ xs)) ++ rest)
    ≡ decimals (x ∷ xs) ∷ word_lines rest
numbers-line x xs rest h = word_lines-line rest (decimals-words h)

-- ---- question 3 of a line of numbers and of what stands after it

allowed-on : (b : ℕ) (rest : List ℕ) → byte_allowed b ≡ true → bytes_allowed rest ≡ true → bytes_allowed (b ∷ rest)
    ≡ true
allowed-on b rest e f = allowed-step b rest ∙ rw (e, f)

digits-allowed : {w : List ℕ} (rest : List ℕ) → All Digit w → bytes_allowed rest ≡ true → bytes_allowed (w ++ rest)
    ≡ true
digits-allowed rest empty e = e
digits-allowed rest (each {x = b} {xs = w} d ds) e = allowed-on b (w ++ rest) (rw d) (digits-allowed rest ds e)

line-allowed : {xs : List ℕ} (rest : List ℕ) → All Fits xs → bytes_allowed rest ≡ true
    → bytes_allowed (line (decimals xs) ++ rest) ≡ true
line-allowed rest empty e = allowed-on lf rest refl e
line-allowed rest (each {x = x} p empty) e =
    rw (append_assoc (decimal x) (lf ∷ []) rest) (digits-allowed (lf ∷ rest) (digits_of p) (allowed-on lf rest refl e))
line-allowed rest (each {x = x} p (each {x = y} {xs = ys} q qs)) e =
    rw (append_assoc (decimal x) (space ∷ line (decimals (y ∷ ys))) rest)
    (digits-allowed (space ∷ (line (decimals (y ∷ ys)) ++ rest)) (digits_of p)
    (allowed-on space (line (decimals (y ∷ ys)) ++ rest) refl (line-allowed rest (each q qs) e)))

allowed-following : (a b : List ℕ) → bytes_allowed (a ++ b) ≡ true → bytes_allowed b ≡ true
allowed-following [] b e = e
allowed-following (x ∷ xs) b e =
    allowed-following xs b (both_true (byte_allowed x || (eqb x cr && at_lf (xs ++ b))) (bytes_allowed (xs ++ b))
    (sym (allowed-step x (xs ++ b)) ∙ e)).1

-- ---- the values and the gates of a netlist with an old form

-- line two as it is read
record PartiesOf (ins outs : List ℕ) : Type 0 where
  is : Parties
  read : parties (some (party_bits ins outs)) ≡ some is
  inputs : input_values is ≡ ins
  outputs : output_values is ≡ outs

parties-of : (ins outs : List ℕ) → 1 ≤ length ins → length ins ≤ 2 → T (every (leb 1) ins) → 1 ≤ length outs
    → length outs ≤ 1 → T (every (leb 1) outs)
    → PartiesOf ins outs
parties-of [] outs h k p h' k' q = absurd (omega arith)
parties-of (a ∷ ins) [] h k p h' k' q = absurd (omega arith)
parties-of (a ∷ ins) (o ∷ (x ∷ xs)) h k p h' k' q = absurd (omega arith)
parties-of (a ∷ (b ∷ (c ∷ cs))) (o ∷ []) h k p h' k' q = absurd (omega arith)
parties-of (a ∷ []) (o ∷ []) h k p h' k' q =
    record {
      is = record { one = a; two = 0; output = o };
      read = rw (is_true (leb 1 a) (both (leb 1 a) true p).0, is_true (leb 1 o) (both (leb 1 o) true q).0);
      inputs = refl;
      outputs = refl;
    }
parties-of (a ∷ (b ∷ [])) (o ∷ []) h k p h' k' q =
    let i = both (leb 1 a) (leb 1 b && true) p in
    let l = leb→le 1 b (both (leb 1 b) true i.1).0 in
    record {
      is = record { one = a; two = b; output = o };
      read = rw (is_true (leb 1 a) i.0, is_true (leb 1 o) (both (leb 1 o) true q).0);
      inputs = rw (ne_eqb b 0 (λ e. omega arith));
      outputs = refl;
    }

old-words : (g : Gate) → is_old_gate g ≡ true → old_line (gate_words g) ≡ gate_words g
old-words (Xor a b c) e = refl
old-words (And a b c) e = refl
old-words (Inv a c) e = refl
old-words (Eqw a c) e = clash (cc)
old-words (Eq v c) e = clash (cc)

old-lines : (gs : List Gate) → every is_old_gate gs ≡ true → map old_line (map gate_words gs) ≡ map gate_words gs
old-lines [] e = refl
old-lines (g ∷ gs) e =
    let k = both_true (is_old_gate g) (every is_old_gate gs) e in
    ap₂ {A = List (List ℕ)} {B = List (List (List ℕ))} ◌∷◌ (old-words g k.0) (old-lines gs k.1)

-- every number of line two is one of the values' or 0
fits-at : {xs : List ℕ} → All Fits xs → (i : ℕ) → Fits (get_or xs i 0)
fits-at empty i = lit< tt
fits-at (each p ps) zero = p
fits-at (each p ps) (suc i) = fits-at ps i

one-digit : length (decimal 0) ≡ 1
unfolding decimal
one-digit = refl

-- line two is no longer than the two lines of values
shorter : (ins outs : List ℕ) → 1 ≤ length ins → length ins ≤ 2 → 1 ≤ length outs → length outs ≤ 1
    → length (line (decimals (party_bits ins outs))) ≤ length (line (decimals (length ins ∷ ins))) + length
    (line (decimals (length outs ∷ outs)))
shorter [] outs h k h' k' = absurd (omega arith)
shorter (a ∷ ins) [] h k h' k' = absurd (omega arith)
shorter (a ∷ ins) (o ∷ (x ∷ xs)) h k h' k' = absurd (omega arith)
shorter (a ∷ (b ∷ (c ∷ cs))) (o ∷ []) h k h' k' = absurd (omega arith)
shorter (a ∷ []) (o ∷ []) h k h' k' = simp length-append (omega (arith, one-digit))
shorter (a ∷ (b ∷ [])) (o ∷ []) h k h' k' = simp length-append (omega arith)

one-for-two : (c b i u g : List ℕ) → length b ≤ length i + length u → length (c ++ (b ++ lf ∷ g)) ≤ length
    (c ++ (i ++ (u ++ lf ∷ g)))
one-for-two c b i u g h = simp length-append (omega arith)

-- ---- a netlist that the questions admit and that has an old form

module _ {L : Limits} (R : Roomy L) (N : Netlist) (a : Accepted L N) (o : has_old_form N ≡ true) where
  F : WellFormed N
  F = a.formed

  tests : (every is_old_gate N.gates ≡ true) × (leb (length N.inputs) 2 ≡ true) × (leb (length N.outputs) 1 ≡ true)
  tests =
      let e = every is_old_gate N.gates in
      let i = leb (length N.inputs) 2 in
      let k = both_true (e && i) (leb (length N.outputs) 1) o in
      let l = both_true e i k.0 in
      (l.0, l.1, k.1)

  fit : NumbersFit N
  fit = numbers-below N (10 ^ max_digits) F a.wires_fit (lit≤ tt)

  bits : PartiesOf N.inputs N.outputs
  bits =
      parties-of N.inputs N.outputs F.some_input (leb-true _ _ tests.1) F.inputs_positive F.some_output
      (leb-true _ _ tests.2)
      F.outputs_positive

  bits_fit : All Fits (party_bits N.inputs N.outputs)
  bits_fit =
      let i = all_tail fit.second in
      let u = all_tail fit.third in
      each (fits-at i 0) (each (fits-at i 1) (each (fits-at u 0) empty))

  -- the gate lines, as the written form has them (docs/RULES.md, Written form)
  gate-lines : word_lines (gate_text N.gates) ≡ map gate_words N.gates
  unfolding write_netlist
  gate-lines =
      let i = line (decimals (length N.inputs ∷ N.inputs)) in
      let u = line (decimals (length N.outputs ∷ N.outputs)) in
      let g = gate_text N.gates in
      let w : word_lines (write_netlist N)
      ≡ decimals (length N.gates ∷ N.wires ∷ []) ∷ decimals (length N.inputs ∷ N.inputs) ∷ decimals
      (length N.outputs ∷ N.outputs) ∷ word_lines g
      = rw (
        numbers-line (length N.gates) (N.wires ∷ []) (i ++ (u ++ lf ∷ g)) fit.first,
        numbers-line (length N.inputs) N.inputs (u ++ lf ∷ g) fit.second,
        numbers-line (length N.outputs) N.outputs (lf ∷ g) fit.third,
        word_lines-blank g,
      ) in
      ap (drop 3) (sym w ∙ written-lines N fit)

  gates-allowed : bytes_allowed (gate_text N.gates) ≡ true
  unfolding write_netlist
  gates-allowed =
      let c = line (decimals (length N.gates ∷ N.wires ∷ [])) in
      let i = line (decimals (length N.inputs ∷ N.inputs)) in
      let u = line (decimals (length N.outputs ∷ N.outputs)) in
      let g = gate_text N.gates in
      allowed-following (lf ∷ []) g (allowed-following u (lf ∷ g)
      (allowed-following i (u ++ lf ∷ g) (allowed-following c (i ++ (u ++ lf ∷ g)) (written-allowed N fit))))

  -- questions 7 to 9 of the gate lines
  gates-read : gate_lines (input_bits N) N.wires [] (map gate_words N.gates) ≡ done N.gates
  gates-read =
      let p = parts L (write_netlist N) N (reads-back R N F a.within) in
      let e : gate_lines (input_bits N) N.wires [] (drop 3 (word_lines (write_netlist N))) ≡ done N.gates
      = subst (λ (M : Netlist). gate_lines (input_bits M) M.wires [] (drop 3 (word_lines (write_netlist N)))
      ≡ done M.gates) p.whole p.lines in
      ap (λ (ls : List (List (List ℕ))). gate_lines (input_bits N) N.wires [] (drop 3 ls)) (sym (written-lines N fit))
      ∙ e

  -- ---- the old written form

  old-written-lines : word_lines (write_old N)
      ≡ decimals (length N.gates ∷ N.wires ∷ []) ∷ decimals (party_bits N.inputs N.outputs) ∷ map gate_words N.gates
  unfolding write_old
  old-written-lines =
      let b = line (decimals (party_bits N.inputs N.outputs)) in
      let g = gate_text N.gates in
      rw (
        numbers-line (length N.gates) (N.wires ∷ []) (b ++ lf ∷ g) fit.first,
        numbers-line (get_or N.inputs 0 0) (get_or N.inputs 1 0 ∷ get_or N.outputs 0 0 ∷ []) (lf ∷ g) bits_fit,
        word_lines-blank g,
        gate-lines,
      )

  old-written-allowed : bytes_allowed (write_old N) ≡ true
  unfolding write_old
  old-written-allowed =
      let b = line (decimals (party_bits N.inputs N.outputs)) in
      let g = gate_text N.gates in
      line-allowed (b ++ lf ∷ g) fit.first (line-allowed (lf ∷ g) bits_fit (allowed-on lf g refl gates-allowed))

  pub old-written-within : length (write_old N) ≤ L.text
  unfolding write_old write_netlist
  old-written-within =
      let c = line (decimals (length N.gates ∷ N.wires ∷ [])) in
      let b = line (decimals (party_bits N.inputs N.outputs)) in
      let i = line (decimals (length N.inputs ∷ N.inputs)) in
      let u = line (decimals (length N.outputs ∷ N.outputs)) in
      let s = shorter N.inputs N.outputs F.some_input (leb-true _ _ tests.1) F.some_output (leb-true _ _ tests.2) in
      le_trans (one-for-two c b i u (gate_text N.gates) s) (written-within R N F a.within)

  old-header-of : old_header (word_lines (write_old N)) ≡ some (header_of N)
  old-header-of = rw (
    old-written-lines,
    numbers_of fit.first,
    numbers_of bits_fit,
    bits.read,
    bits.inputs,
    bits.outputs,
  )

  -- questions 2 to 6
  old-opening-written : old_opening L (write_old N) ≡ done (header_of N)
  unfolding old_opening
  old-opening-written =
      rw (
        le-leb (length (write_old N)) L.text old-written-within,
        old-written-allowed,
        old-header-of,
        old-written-lines,
        le-leb N.wires L.wires a.within.wires,
        le-leb (length N.inputs) L.inputs a.within.inputs,
        le-leb (length N.outputs) L.outputs a.within.outputs,
        le-leb (input_bits N) N.wires F.inputs_fit,
        le-leb (output_bits N) N.wires F.outputs_fit,
        eq-eqb (length N.gates) (N.wires - input_bits N) F.gate_count,
        length-map N.gates gate_words,
        eq-eqb (length N.gates) (length N.gates) refl,
      )

  -- what is written is read back
  pub old-round-trip : read_old L (write_old N) ≡ done N
  unfolding read_old
  old-round-trip = rw (old-opening-written, old-written-lines, old-lines N.gates tests.0, gates-read)
