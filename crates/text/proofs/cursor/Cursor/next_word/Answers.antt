-- Three bytes, or two scans.
use mathlib.Core.Path.{refl}
use native.Mathlib.Omega.{arith}
use Rattle.text.proofs.Scans.{three-word}
use Rattle.text.proofs.Cursors.{two-scans}
use Rattle.text.proofs.cursor.Cursor.next_word.Goals as goal

pub returns-then-is_three_bytes : goal.returns-then-is_three_bytes
returns-then-is_three_bytes c =
    let w = three-word _ _ (c.is_three_bytes.ensures c.if-is_three_bytes.true) in
    record { word = w.word; rest = w.left; on = omega arith; same = refl }

pub returns : goal.returns
returns c = two-scans _ _ _ c.skip_spaces-start.ensures c.take_word-end.ensures
