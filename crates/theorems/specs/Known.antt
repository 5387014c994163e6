-- Known results M1 to M9 (docs/RULES.md, Known results), as calls with all that they are handed, and their outcomes.
use Rattle.std.specs.Prelude.{ℕ, Bool, true, false, List, [], ◌∷◌, ◌++◌, map, ◌≡◌, replicate}
use Rattle.std.proofs.Math.Option.{Option, none, some}
use Rattle.netlist.specs.declared.Sizes.TheVariants.{Standard}
use Rattle.netlist.specs.Lists.{ascii}
use Rattle.netlist.specs.Netlist.{Netlist, source_limits, masked_limits}
use Rattle.netlist.specs.Outcome.{Outcome, refused, done, and_then}
use Rattle.netlist.specs.Read.{read_netlist}
use Rattle.masking.specs.Mask.{mask_netlist}
use Rattle.masking.specs.Leak.{count, Found}
use Rattle.masking.specs.Calls.{MaskedText, mask_call, check_call}
use Rattle.program.specs.Programs.{mask_program, check_program}

-- a call: Mask or Check with its tables' lengths, text, lists and buffer lengths; the program *mask* on its three
-- files, or *check* on its two; or the counts of wires of the masked netlist of a text, for an input setting
pub data Call : Type 0 where
  mask : (tables text codes wanted : List ℕ) → (text_room code_room : ℕ) → Call
  check : (tables text codes : List ℕ) → Call
  mask_files : (netlist inputs outputs : List ℕ) → Call
  check_files : (netlist inputs : List ℕ) → Call
  counts : (text codes wanted wires : List ℕ) → List Bool → Call

pub data Answer : Type 0 where
  masks : (text codes : List ℕ) → Answer
  clean : Answer
  leaks : (wire setting base own : ℕ) → Answer
  are : List ℕ → Answer
  prints : List ℕ → Answer

abbrev pub mask_answer : MaskedText → Outcome Answer
mask_answer R = done (masks R.text R.codes)

abbrev pub check_answer : Option Found → Outcome Answer
check_answer none = done clean
check_answer (some f) = done (leaks f.wire f.at f.base f.own)

abbrev pub count_answer : List ℕ → List ℕ → List ℕ → List Bool → Netlist → Outcome Answer
count_answer codes wanted wires x N
    = done (are (map (λ w. count (mask_netlist N codes wanted).netlist codes w x) wires))

abbrev pub outcome_of : Call → Outcome Answer
outcome_of (mask tables text codes wanted text_room code_room)
    = and_then (mask_call (source_limits Standard) tables text codes wanted text_room code_room) mask_answer
outcome_of (check tables text codes) = and_then (check_call (masked_limits Standard) tables text codes) check_answer
outcome_of (mask_files netlist inputs outputs) = done (prints (mask_program netlist inputs outputs))
outcome_of (check_files netlist inputs) = done (prints (check_program netlist inputs))
outcome_of (counts text codes wanted wires x) = and_then (read_netlist (source_limits Standard) text)
    (count_answer codes wanted wires x)

pub record KnownResult : Type 0 where
  pub call : Call
  pub outcome : Outcome Answer

abbrev pub known : Call → Outcome Answer → KnownResult
known c o = record { call = c; outcome = o }

-- every call has its outcome
abbrev pub Known : List KnownResult → Type 0
Known ks = map (λ k. outcome_of k.call) ks ≡ map (λ k. k.outcome) ks

-- the four working tables of Mask and the five of Check, as short as question 1 admits
abbrev pub mask_tables : List ℕ
mask_tables = 2048 ∷ 2048 ∷ 2048 ∷ 2048 ∷ []

abbrev pub check_tables : List ℕ
check_tables = 18431 ∷ 18431 ∷ 18431 ∷ 18431 ∷ 18431 ∷ []

-- M1's source, and what *mask* prints below its first line
abbrev pub and_source : List ℕ
and_source = ascii "1 3\n2 1 1\n1 1\n2 1 0 1 2 AND\n"

abbrev pub and_masked : List ℕ
and_masked = ascii "11 15\n3 1 1 2\n1 1\n\n2 1 2 3 4 XOR\n2 1 2 3 5 AND\n2 1 4 5 6 XOR\n2 1 0 1 7 AND\n2 1 0 3 8 AND\n2 1 8 3 9 XOR\n2 1 7 9 10 XOR\n2 1 2 1 11 AND\n2 1 11 6 12 XOR\n2 1 10 12 13 XOR\n1 1 13 14 EQW\n"

-- s1 to s7 of M1, and their counts by M4
abbrev pub step_wires : List ℕ
step_wires = 7 ∷ 8 ∷ 9 ∷ 10 ∷ 11 ∷ 12 ∷ 13 ∷ []

abbrev pub step_counts : Outcome Answer
step_counts = done (are (1 ∷ 1 ∷ 1 ∷ 2 ∷ 1 ∷ 2 ∷ 2 ∷ []))

abbrev pub m4 : Bool → Bool → KnownResult
m4 a b = known (counts and_source (1 ∷ 2 ∷ []) (0 ∷ []) step_wires (a ∷ b ∷ [])) step_counts

-- M1, as *mask* prints it and as a call of the service, and M2 to M9 in order, M5 to M7 also as *check* prints them;
-- the empty text of M8 comes once with thirteen codes, more than question 12 admits: 4 is put first
abbrev pub rows : List KnownResult
rows =
    known (mask_files and_source (ascii "12\n") (ascii "0\n")) (done (prints (ascii "1\n" ++ and_masked)))
    ∷ known (mask mask_tables and_source (1 ∷ 2 ∷ []) (0 ∷ []) 180 1) (done (masks and_masked (1 ∷ [])))
    ∷ known (mask mask_tables (ascii "1 3\n2 1 1\n1 1\n2 1 0 1 2 XOR\n") (1 ∷ 1 ∷ []) (3 ∷ []) 60000 1)
    (done (masks (ascii "6 10\n3 1 1 2\n1 1\n\n2 1 2 3 4 XOR\n2 1 2 3 5 AND\n2 1 4 5 6 XOR\n2 1 1 3 7 XOR\n2 1 0 7 8 XOR\n2 1 8 2 9 XOR\n") (3 ∷ [])))
    ∷ known (mask mask_tables (ascii "0 1\n1 1\n1 1\n") (2 ∷ []) (0 ∷ []) 60000 1)
    (done (masks (ascii "4 7\n2 1 2\n1 1\n\n2 1 1 2 3 XOR\n2 1 1 2 4 AND\n2 1 3 4 5 XOR\n1 1 0 6 EQW\n") (2 ∷ [])))
    ∷ m4 false false
    ∷ m4 true false
    ∷ m4 false true
    ∷ m4 true true
    ∷ known (check check_tables (ascii "1 4\n2 1 2\n1 1\n2 1 0 1 3 XOR\n") (1 ∷ [])) (done (leaks 3 1 0 4))
    ∷ known (check_files (ascii "1 4\n2 1 2\n1 1\n2 1 0 1 3 XOR\n") (ascii "1\n"))
    (done (prints (ascii "leak 3 1 0 4\n")))
    ∷ known (check check_tables (ascii "1 4\n2 1 2\n1 1\n2 1 0 1 3 XOR\n") (2 ∷ [])) (done clean)
    ∷ known (check_files (ascii "1 4\n2 1 2\n1 1\n2 1 0 1 3 XOR\n") (ascii "2\n")) (done (prints (ascii "clean\n")))
    ∷ known (check check_tables (ascii "1 4\n2 1 2\n1 1\n2 1 0 1 3 AND\n") (1 ∷ [])) (done (leaks 3 1 2 0))
    ∷ known (check_files (ascii "1 4\n2 1 2\n1 1\n2 1 0 1 3 AND\n") (ascii "1\n"))
    (done (prints (ascii "leak 3 1 2 0\n")))
    ∷ known (mask mask_tables [] (1 ∷ []) (0 ∷ []) 60000 1) (refused 4)
    ∷ known (check check_tables [] (1 ∷ [])) (refused 4)
    ∷ known (check check_tables [] (replicate 13 1)) (refused 4)
    ∷ known (mask mask_tables (ascii "1 3\n2 1 1\n1 1\n2 1 0 1 2 MAND\n") (1 ∷ 2 ∷ []) (0 ∷ []) 60000 1) (refused 7)
    ∷ []
