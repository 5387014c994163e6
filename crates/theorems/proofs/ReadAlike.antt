-- A text whose every CR stands before LF and the same text with its CR LFs made LF read alike, and so does every
-- service. Question 2 counts CRs, so the text is one that it admits.
use Prim.Native.Nat.{ℕ, suc, ◌≤◌}
use mathlib.Core.Path.{◌≡◌}
use mathlib.Core.Bool.{Bool, true, false, cond, ◌&&◌}
use mathlib.Core.List.{List, [], ◌∷◌}
use native.Mathlib.Omega.{arith}
use lib.Dec.{eqb}
use lib.ListN.{length}
use borrow.Author.Tests.{le-leb}
use Rattle.netlist.specs.declared.Limits.{Limits}
use Rattle.netlist.specs.Text.{cr, at_lf, lf_ends}
use Rattle.netlist.specs.Read.{opening, read_netlist}
use Rattle.netlist.specs.GateReader.{reader_says}
use Rattle.netlist.specs.Services.{rewrite_call, run_call}
use Rattle.masking.specs.Calls.{mask_call, check_call}
use Rattle.netlist.proofs.LineEnds.{NoCR, lf_ends-none, ends-alike}
use Rattle.theorems.specs.Texts.{LineEndsAlike}

ends-shorter : (t : List ℕ) → length (lf_ends t) ≤ length t
ends-shorter [] = omega arith
ends-shorter (x ∷ xs) = go (eqb x cr && at_lf xs) (ends-shorter xs)
  where
    go : (b : Bool) → length (lf_ends xs) ≤ length xs → length (cond b (lf_ends xs) (x ∷ lf_ends xs)) ≤ suc (length xs)
    go true h = omega arith
    go false h = omega arith

module _ (L : Limits) (t : List ℕ) (n : length t ≤ L.text) (h : NoCR (lf_ends t)) where
  opening-alike : opening L (lf_ends t) ≡ opening L t
  unfolding opening
  opening-alike =
      let k : length (lf_ends t) ≤ L.text = omega (arith, ends-shorter t) in
      rw (le-leb (length (lf_ends t)) L.text k, le-leb (length t) L.text n, lf_ends-none h, ends-alike t)

  read_alike : read_netlist L (lf_ends t) ≡ read_netlist L t
  unfolding read_netlist
  read_alike = rw (opening-alike, ends-alike t)

  -- ---- services

  rewrite-alike : (tables : List ℕ) (room : ℕ) → rewrite_call L tables (lf_ends t) room
      ≡ rewrite_call L tables t room
  unfolding rewrite_call
  rewrite-alike tables room = rw read_alike

  run-alike : (tables list : List ℕ) (room : ℕ) → run_call L tables (lf_ends t) list room
      ≡ run_call L tables t list room
  unfolding run_call
  run-alike tables list room = rw read_alike

  mask-alike : (tables codes wanted : List ℕ) (text_room code_room : ℕ)
      → mask_call L tables (lf_ends t) codes wanted text_room code_room ≡ mask_call L tables t codes wanted text_room
      code_room
  unfolding mask_call
  mask-alike tables codes wanted text_room code_room = rw read_alike

  check-alike : (tables codes : List ℕ) → check_call L tables (lf_ends t) codes ≡ check_call L tables t codes
  unfolding check_call
  check-alike tables codes = rw read_alike

  -- the gate reader, asked for the k-th time
  reader-alike : (k : ℕ) → reader_says L (lf_ends t) k ≡ reader_says L t k
  unfolding reader_says
  reader-alike k = rw (opening-alike, ends-alike t)

pub line-ends-alike : LineEndsAlike
line-ends-alike L t n h = record {
  opened = opening-alike L t n h;
  netlist = read_alike L t n h;
  rewritten = rewrite-alike L t n h;
  run = run-alike L t n h;
  masked = mask-alike L t n h;
  checked = check-alike L t n h;
  gate = reader-alike L t n h;
}
