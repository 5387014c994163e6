-- Three texts joined: the same text, whichever seam is closed first; and where one order is accepted, so is the other.
use Prim.Native.Nat.{ℕ, ◌+◌, ◌-◌, ◌≤◌}
use mathlib.Core.Path.{◌≡◌, refl, sym, ap, ◌∙◌}
use mathlib.Core.Bool.{Bool}
use mathlib.Core.List.{List}
use native.Mathlib.Omega.{arith}
use native.Mathlib.Nat.{le_trans}
use lib.ListN.{length, length-append, length-map}
use Rattle.netlist.specs.declared.Limits.{Limits}
use Rattle.netlist.specs.declared.Sizes.{Sizes}
use Rattle.netlist.specs.Netlist.{Netlist, input_bits, output_bits, masked_limits}
use Rattle.netlist.specs.Outcome.{done}
use Rattle.netlist.specs.Read.{read_netlist, Within}
use Rattle.netlist.specs.Write.{write_netlist}
use Rattle.netlist.proofs.Questions.{done-same}
use Rattle.netlist.proofs.Accepted.{accepted}
use Rattle.netlist.proofs.Size.{Roomy, reads-back, written-within, roomy-large}
use Rattle.join.specs.Join.{join}
use Rattle.join.specs.Call.{join_call}
use Rattle.join.specs.Block.{BlockText}
use Rattle.join.proofs.SeamLaws.{Seam}
use Rattle.join.proofs.Formed.{joined-formed}
use Rattle.join.proofs.Three.{join-three}
use Rattle.join.proofs.Calls.{Joins, Joined, joined, call-done, call-seam, joined-reads}

-- a first with as many gates as output bits has as many wires as the second has inputs
first-wide : {A B : Netlist} → Seam A B → output_bits A ≤ length A.gates → input_bits B ≤ A.wires
first-wide {A} {B} S more =
    let m : output_bits A + 2 ≡ input_bits B = S.meets in
    let n : 2 ≤ input_bits A = S.pair in
    let i : input_bits A ≤ A.wires = S.first.inputs_fit in
    let c : length A.gates ≡ A.wires - input_bits A = S.first.gate_count in
    omega arith

module _ {L : Limits} (R : Roomy L) (tables one one_codes one_out_codes two two_codes two_out_codes three three_codes :
    List ℕ) where
  -- the four calls: one and two, their text and three, two and three, one and their text
  abbrev FirstSeam : ℕ → List ℕ → Type 0
  FirstSeam room out = Joined L tables one one_codes one_out_codes two two_codes room out

  abbrev ThenThird : List ℕ → ℕ → List ℕ → Type 0
  ThenThird text room out = Joined L tables text one_codes two_out_codes three three_codes room out

  abbrev SecondSeam : ℕ → List ℕ → Type 0
  SecondSeam room out = Joined L tables two two_codes two_out_codes three three_codes room out

  abbrev ThenFirst : List ℕ → ℕ → List ℕ → Type 0
  ThenFirst text room out = Joined L tables one one_codes one_out_codes text two_codes room out

  -- two readings of a text are one
  same-reading : (text : List ℕ) {N M : Netlist} → read_netlist L text ≡ done N → read_netlist L text ≡ done M → N ≡ M
  same-reading text {N} {M} p q = done-same N M (sym p ∙ q)

  pub three-texts : (p q r s : ℕ) (u v x y : List ℕ) → FirstSeam p u → ThenThird u q v → SecondSeam r x
      → ThenFirst x s y → v ≡ y
  three-texts p q r s u v x y F G H K =
      let A = F.A in
      let B = F.B in
      let C = G.B in
      let ab : G.A ≡ join A B = same-reading u G.one.read (joined-reads L tables one one_codes one_out_codes two
      two_codes p R F) in
      let b : H.A ≡ B = same-reading two H.one.read F.two.read in
      let c : H.B ≡ C = same-reading three H.two.read G.two.read in
      let a : K.A ≡ A = same-reading one K.one.read F.one.read in
      let bc : K.B ≡ join H.A H.B = same-reading x K.two.read
      (joined-reads L tables two two_codes two_out_codes three three_codes r R H) in
      let S = call-seam L tables one one_codes one_out_codes two two_codes p F in
      let Q : Seam B C = rw (b, c) at (call-seam L tables two two_codes two_out_codes three three_codes r H) in
      G.text ∙ ap (λ (N : Netlist). write_netlist (join N C)) ab ∙ ap write_netlist (join-three S Q)
      ∙ sym (K.text ∙ rw (a, bc, b, c))

  -- a joined netlist within the limits: its text is within them, and reads back
  module _ {A B : Netlist} (S : Seam A B) (within : Within L (join A B)) where
    text-within : length (write_netlist (join A B)) ≤ L.text
    text-within = written-within R (join A B) (joined-formed S) within

    text-reads : read_netlist L (write_netlist (join A B)) ≡ done (join A B)
    text-reads = reads-back R (join A B) (joined-formed S) within

  -- the first seam first: then the second seam can be closed first, where the first has at least as many gates as
  -- output bits, in a buffer as long as any text
  pub second-first : (p q r : ℕ) (u v : List ℕ) (F : FirstSeam p u) → ThenThird u q v
      → output_bits F.A ≤ length F.A.gates → L.text ≤ r
      → (x : List ℕ) × SecondSeam r x × ThenFirst x q v
  second-first p q r u v F G more room =
      let A = F.A in
      let B = F.B in
      let C = G.B in
      let ab : G.A ≡ join A B = same-reading u G.one.read (joined-reads L tables one one_codes one_out_codes two
      two_codes p R F) in
      let S = call-seam L tables one one_codes one_out_codes two two_codes p F in
      let J : Seam (join A B) C = rw ab at (call-seam L tables u one_codes two_out_codes three three_codes q G) in
      let m : output_bits A + 2 ≡ input_bits B = S.meets in
      let wide : input_bits B ≤ A.wires = first-wide S more in
      let Q : Seam B C = record {
        first = S.second;
        second = J.second;
        pair = omega arith;
        meets = J.meets;
        gates
            = J.gates;
      } in
      let s : Joins (join A B) two_out_codes C three_codes = rw ab at G.seam in
      let w : (join (join A B) C).wires ≤ L.wires = rw ab at G.wires in
      let i : input_bits B ≤ B.wires = S.second.inputs_fit in
      let k : input_bits C ≤ C.wires = J.second.inputs_fit in
      let I : Within L (join B C) = record {
        wires = omega arith;
        inputs = (accepted L two B F.two.read).within.inputs;
        outputs = (accepted L three C G.two.read).within.outputs;
      } in
      let g : output_bits C ≤ length C.gates = J.gates in (
        write_netlist (join B C),
        record {
          long = F.long;
          A = B;
          one = F.two;
          B = C;
          two = G.two;
          seam = record { count = s.count; same = s.same; secret = s.secret; gates = s.gates };
          wires = I.wires;
          text = refl;
          fits = le_trans (text-within Q I) room;
        },
        record {
          long = F.long;
          A = A;
          one = F.one;
          B = join B C;
          two = record { read = text-reads Q I; masks = F.two.masks; list = F.two.list };
          seam = record {
            count = F.seam.count;
            same = F.seam.same;
            secret = F.seam.secret;
            gates
                = simp (length-append, length-map) (omega arith);
          };
          wires = omega arith;
          text = G.text ∙ ap (λ (N : Netlist). write_netlist (join N C)) ab ∙ ap write_netlist (join-three S Q);
          fits = G.fits;
        },
      )

  -- the second seam first: then the first seam can be closed first, where the second has at least as many gates as
  -- output bits
  pub first-first : (r s p : ℕ) (x y : List ℕ) (H : SecondSeam r x) → ThenFirst x s y
      → output_bits H.A ≤ length H.A.gates → L.text ≤ p
      → (u : List ℕ) × FirstSeam p u × ThenThird u s y
  first-first r s p x y H K more room =
      let A = K.A in
      let B = H.A in
      let C = H.B in
      let bc : K.B ≡ join B C = same-reading x K.two.read (joined-reads L tables two two_codes two_out_codes three
      three_codes r R H) in
      let Q = call-seam L tables two two_codes two_out_codes three three_codes r H in
      let J : Seam A (join B C) = rw bc at (call-seam L tables one one_codes one_out_codes x two_codes s K) in
      let S : Seam A B = record { first = J.first; second = Q.first; pair = J.pair; meets = J.meets; gates = more } in
      let t : Joins A one_out_codes (join B C) two_codes = rw bc at K.seam in
      let w : (join A (join B C)).wires ≤ L.wires = rw bc at K.wires in
      let i : input_bits B ≤ B.wires = Q.first.inputs_fit in
      let k : input_bits C ≤ C.wires = Q.second.inputs_fit in
      let I : Within L (join A B) = record {
        wires = omega arith;
        inputs = (accepted L one A K.one.read).within.inputs;
        outputs = (accepted L two B H.one.read).within.outputs;
      } in (
        write_netlist (join A B),
        record {
          long = H.long;
          A = A;
          one = K.one;
          B = B;
          two = H.one;
          seam = record { count = t.count; same = t.same; secret = t.secret; gates = more };
          wires = I.wires;
          text = refl;
          fits = le_trans (text-within S I) room;
        },
        record {
          long = H.long;
          A = join A B;
          one = record { read = text-reads S I; masks = K.one.masks; list = K.one.list };
          B = C;
          two = H.two;
          seam = record { count = H.seam.count; same = H.seam.same; secret = H.seam.secret; gates = H.seam.gates };
          wires = omega arith;
          text = K.text ∙ ap (λ (N : Netlist). write_netlist (join A N)) bc ∙ sym (ap write_netlist (join-three S Q));
          fits = K.fits;
        },
      )

-- texts of blocks have the gates that this asks for: what calls accept in one order they accept in the other, with the
-- same text
module _ {s : Sizes} {f g : List Bool → List Bool} {one one_codes one_out_codes two two_codes two_out_codes : List ℕ}
    (K : BlockText s f one_codes one one_out_codes)
    (M : BlockText s g two_codes two two_out_codes) (tables three three_codes : List ℕ) (last : ℕ) where
  -- the gates of a block's text
  gates-of : {h : List Bool → List Bool} {codes text out_codes : List ℕ} → BlockText s h codes text out_codes
      → {N : Netlist} → read_netlist (masked_limits s) text ≡ done N
      → output_bits N ≤ length N.gates
  gates-of T {N} e = let z : T.netlist ≡ N = done-same T.netlist N (sym T.read ∙ e) in rw z at T.block.gates

  pub other-order : (p : ℕ) (u v : List ℕ) → join_call (masked_limits s) tables one one_codes one_out_codes two
      two_codes p ≡ done u
      → join_call (masked_limits s) tables u one_codes two_out_codes three three_codes last ≡ done v
      → (x : List ℕ) × (join_call (masked_limits s) tables two two_codes two_out_codes three three_codes
      (masked_limits s).text ≡ done x)
      × (join_call (masked_limits s) tables one one_codes one_out_codes x two_codes last ≡ done v)
  other-order p u v d e =
      let F = joined (masked_limits s) tables one one_codes one_out_codes two two_codes p u d in
      let G = joined (masked_limits s) tables u one_codes two_out_codes three three_codes last v e in
      let k = second-first (roomy-large s) tables one one_codes one_out_codes two two_codes two_out_codes three
      three_codes p last (masked_limits s).text u v F G
      (gates-of K F.one.read) (omega arith) in (
        k.0,
        call-done (masked_limits s) tables two two_codes two_out_codes three three_codes (masked_limits s).text k.0 k.1,
        call-done (masked_limits s) tables one one_codes one_out_codes k.0 two_codes last v k.2,
      )

  pub order-back : (r : ℕ) (x y : List ℕ) → join_call (masked_limits s) tables two two_codes two_out_codes three
      three_codes r ≡ done x
      → join_call (masked_limits s) tables one one_codes one_out_codes x two_codes last ≡ done y
      → (u : List ℕ) × (join_call (masked_limits s) tables one one_codes one_out_codes two two_codes
      (masked_limits s).text ≡ done u)
      × (join_call (masked_limits s) tables u one_codes two_out_codes three three_codes last ≡ done y)
  order-back r x y d e =
      let H = joined (masked_limits s) tables two two_codes two_out_codes three three_codes r x d in
      let J = joined (masked_limits s) tables one one_codes one_out_codes x two_codes last y e in
      let k = first-first (roomy-large s) tables one one_codes one_out_codes two two_codes two_out_codes three
      three_codes r last (masked_limits s).text x y H J
      (gates-of M H.one.read) (omega arith) in (
        k.0,
        call-done (masked_limits s) tables one one_codes one_out_codes two two_codes (masked_limits s).text k.0 k.1,
        call-done (masked_limits s) tables k.0 one_codes two_out_codes three three_codes last y k.2,
      )
