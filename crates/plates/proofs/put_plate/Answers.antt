-- A plate is stored section by section, each where those before it end, the trailer last.
use mathlib.Core.Path.{refl}
use Rattle.plates.proofs.Plates.{plate_put}
use native.Mathlib.Omega.{arith}
use Rattle.plates.proofs.put_plate.Goals as goal

pub returns : goal.returns
returns c =
    let a = c.args in
    plate_put a.registers.now a.video.now a.cursor.now a.sound.now a.out.now _ _ _ _ _ _ _ _ _ _
    c.put_words.ensures c.put_words-2.ensures c.put_words-3.ensures
    c.put_words-4.ensures c.put_words-5.ensures (omega arith) (omega arith) (omega arith) (omega arith) refl
    c.requires.1
