-- Three texts from Mask joined: the bridge from what Mask returns to the blocks that joins are proved of.
use Prim.Native.Nat.{ℕ}
use mathlib.Core.Path.{◌≡◌}
use mathlib.Core.List.{List}
use Rattle.netlist.specs.declared.Sizes.{Sizes}
use Rattle.netlist.specs.Netlist.{masked_limits}
use Rattle.netlist.specs.Eval.{outputs_of}
use Rattle.netlist.proofs.Size.{roomy-large}
use Rattle.join.specs.Block.{BlockText}
use Rattle.join.proofs.BlockTexts.{mask-text}
use Rattle.join.proofs.Calls.{Joined, joined}
use Rattle.join.proofs.ThreeTexts.{three-texts, other-order, order-back}
use Rattle.theorems.specs.Joins.{Coded, Masked, FirstSeamFirst, SecondSeamFirst, EitherSeamFirst, ThreeJoined}

module _ (s : Sizes) (tables : List ℕ) (one two three : Coded) (A : Masked one) (B : Masked two) where
  same-bytes : (p q r t : ℕ) (u v : List ℕ) → FirstSeamFirst s tables one two three p q u
      → SecondSeamFirst s tables one two three r t v → u ≡ v
  same-bytes p q r t u v F S =
      let L = masked_limits s in
      three-texts (roomy-large s) tables one.text one.codes one.out_codes two.text two.codes two.out_codes three.text
      three.codes p q r t F.middle u S.middle v
      (joined L tables one.text one.codes one.out_codes two.text two.codes p F.middle F.first)
      (joined L tables F.middle one.codes two.out_codes three.text three.codes q u F.second)
      (joined L tables two.text two.codes two.out_codes three.text three.codes r S.middle S.first)
      (joined L tables one.text one.codes one.out_codes S.middle two.codes t v S.second)

  second-then : (p last : ℕ) (u : List ℕ) → FirstSeamFirst s tables one two three p last u
      → SecondSeamFirst s tables one two three (masked_limits s).text last u
  second-then p last u F =
      let J = joined (masked_limits s) tables one.text one.codes one.out_codes two.text two.codes p F.middle F.first in
      let K : BlockText s (outputs_of A.source) one.codes one.text one.out_codes = mask-text A.made J.one.read in
      let M : BlockText s (outputs_of B.source) two.codes two.text two.out_codes = mask-text B.made J.two.read in
      let k = other-order K M tables three.text three.codes last p F.middle u F.first F.second in
      record { middle = k.0; first = k.1; second = k.2 }

  first-then : (r last : ℕ) (v : List ℕ) → SecondSeamFirst s tables one two three r last v
      → FirstSeamFirst s tables one two three (masked_limits s).text last v
  first-then r last v S =
      let H = joined (masked_limits s) tables two.text two.codes two.out_codes three.text three.codes r S.middle S.first
      in
      let J = joined (masked_limits s) tables one.text one.codes one.out_codes S.middle two.codes last v S.second in
      let K : BlockText s (outputs_of A.source) one.codes one.text one.out_codes = mask-text A.made J.one.read in
      let M : BlockText s (outputs_of B.source) two.codes two.text two.out_codes = mask-text B.made H.one.read in
      let k = order-back K M tables three.text three.codes last r S.middle v S.first S.second in
      record { middle = k.0; first = k.1; second = k.2 }

pub three-joined : ThreeJoined
three-joined s tables one two three A B C = record {
  same = same-bytes s tables one two three A B;
  second_first = second-then s tables one two three A B;
  first_first = first-then s tables one two three A B;
}
