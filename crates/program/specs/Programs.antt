-- What the programs read and print (docs/RULES.md, Programs).
use Rattle.std.specs.Prelude.{ℕ, ◌-◌, cond, List, [], ◌∷◌, ◌++◌, map, leb, length, take}
use Rattle.std.proofs.Math.Option.{Option, none, some}
use Rattle.netlist.specs.declared.Sizes.TheVariants.{Standard}
use Rattle.netlist.specs.Lists.{ascii}
use Rattle.netlist.specs.Text.{lf, without_end}
use Rattle.netlist.specs.Number.{is_digit, decimal}
use Rattle.netlist.specs.Netlist.{source_limits, masked_limits}
use Rattle.netlist.specs.Outcome.{Outcome, refused, done, ask}
use Rattle.netlist.specs.Write.{line}
use Rattle.masking.specs.Leak.{Found}
use Rattle.masking.specs.Calls.{MaskedText, mask_call, check_call}
use Rattle.netlist.specs.Services.{rewrite_call, run_call}

-- ---- what is read

-- the most bytes that a program reads of a file
abbrev pub file_limit : ℕ
file_limit = 60000

-- a netlist file longer than that is refused by question 2
abbrev pub readable : {A : Type 0} → List ℕ → Outcome A → Outcome A
readable netlist o = ask 2 (leb (length netlist) file_limit) o

-- the bytes of a list file that count: a longer file is cut, then one LF or CR LF at the end comes off
abbrev pub list_bytes : List ℕ → List ℕ
list_bytes file = without_end (take file_limit file)

-- a list byte that is no digit counts as 9
abbrev pub entry : ℕ → ℕ
entry b = cond (is_digit b) (b - 48) 9

-- a list file's bytes as a list
unfoldable pub list_file : List ℕ → List ℕ
list_file file = map entry (list_bytes file)

-- ---- what is printed

-- a list as digits without spaces
abbrev pub print_list : List ℕ → List ℕ
print_list [] = []
print_list (e ∷ es) = decimal e ++ print_list es

-- refused and the number
abbrev pub print_refused : ℕ → List ℕ
print_refused q = line (ascii "refused" ∷ decimal q ∷ [])

-- the output codes on the first line, then the masked text
abbrev pub print_mask : Outcome MaskedText → List ℕ
print_mask (refused q) = print_refused q
print_mask (done R) = print_list R.codes ++ lf ∷ R.text

abbrev pub print_clean : List ℕ
print_clean = line (ascii "clean" ∷ [])

-- leak with the four numbers: wire, setting, its base's count, its own
abbrev pub print_leak : ℕ → ℕ → ℕ → ℕ → List ℕ
print_leak wire setting base own = line (ascii "leak" ∷ decimal wire ∷ decimal setting ∷ decimal base ∷ decimal own ∷
    [])

abbrev pub print_check : Outcome (Option Found) → List ℕ
print_check (refused q) = print_refused q
print_check (done none) = print_clean
print_check (done (some f)) = print_leak f.wire f.at f.base f.own

-- the output bits
abbrev pub print_run : Outcome (List ℕ) → List ℕ
print_run (refused q) = print_refused q
print_run (done bits) = print_list bits ++ lf ∷ []

-- the text
abbrev pub print_rewrite : Outcome (List ℕ) → List ℕ
print_rewrite (refused q) = print_refused q
print_rewrite (done text) = text

-- ---- the programs, each from the bytes of its files; every table and buffer is long enough but for *mask*'s text

unfoldable pub mask_program : List ℕ → List ℕ → List ℕ → List ℕ
mask_program netlist inputs outputs =
    print_mask (readable netlist (mask_call (source_limits Standard) [] netlist (list_file inputs) (list_file outputs)
    file_limit (source_limits Standard).wires))

unfoldable pub check_program : List ℕ → List ℕ → List ℕ
check_program netlist inputs
    = print_check (readable netlist (check_call (masked_limits Standard) [] netlist (list_file inputs)))

unfoldable pub run_program : List ℕ → List ℕ → List ℕ
run_program netlist inputs
    = print_run (readable netlist (run_call (masked_limits Standard) [] netlist (list_file inputs)
    (masked_limits Standard).wires))

unfoldable pub rewrite_program : List ℕ → List ℕ
rewrite_program netlist
    = print_rewrite (readable netlist (rewrite_call (masked_limits Standard) [] netlist (masked_limits Standard).text))
