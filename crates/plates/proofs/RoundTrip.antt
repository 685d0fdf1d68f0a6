-- The round trip, over what the calls promise: `Post` is a call's `ensures` as the source states it.
use mathlib.Core.Path.{◌≡◌, sym, ◌∙◌, ap, subst}
use mathlib.Core.List.{List, ◌++◌}
use Prim.Native.Nat.{ℕ, ◌+◌, ◌*◌, ◌/◌, ◌^◌, ◌≤◌}
use native.Mathlib.Omega.{arith}
use lib.ListN.{length, take}
use lib.Seq.{sets, sets-eq, slice, take_at}
use borrow.Author.Tests.{le-ltb}
use borrow.Fn.Kinds.{Dens, res_t, ended_of}
use contract.Lifetimes.{Lfts}
use denote.Triple.Clauses.{AtExit}
use Rattle.buffers.specs.Words.{Below}
use Rattle.refusals.specs.Table.{Told, given, unless_refused}
use Rattle.refusals.specs.Refusals.{says}
use Rattle.plates.specs.Plate.{most_bytes, sections_by, plate_of, plate_length}
use Rattle.plates.specs.Read.{read_told, copy_told, copied}
use Rattle.plates.specs.Write.{write_told}
use Rattle.plates.specs.declared.Sections.{Sections}
use Rattle.plates.proofs.Calls.{right_given, right_ordered, right_short, copy_rows}
use Rattle.plates.proofs.Written.{length_plate, plate_read, plate_copied}
use Rattle.plates.proofs.Again.{cut_plate}
use Rattle.plates.proofs.read.Kinds as read_kinds
use Rattle.plates.proofs.read.Reads as read_reads
use Rattle.plates.proofs.copy_out.Kinds as copy_kinds
use Rattle.plates.proofs.copy_out.Reads as copy_reads
use Rattle.plates.proofs.write.Kinds as write_kinds
use Rattle.plates.proofs.write.Reads as write_reads

-- Every reading of a file answers the sections of four lists, and every copying out of it into memory that has room the lists in order.
pub record ReadsBack (file rs vs cs ss : List ℕ) : Type 0 where
  pub reading :
      (κs : Lfts 1) (a : Dens κs read_kinds.ps) (x : (res_t read_kinds.r κs).Denot) (s : AtExit (ended_of 1 read_kinds.ps read_kinds.r) κs)
      → read_reads.Post κs a x s → a.0.now ≡ file
      → says x
      ≡ given (sections_by (length rs + (length vs + (length cs + length ss))) (length vs + (length cs + length ss)) (length cs + length ss) (length ss))
  pub copying :
      (κs : Lfts 2) (a : Dens κs copy_kinds.ps) (x : (res_t copy_kinds.r κs).Denot) (s : AtExit (ended_of 2 copy_kinds.ps copy_kinds.r) κs)
      → copy_reads.Post κs a x s → a.0.now ≡ file → length rs + (length vs + (length cs + length ss)) ≤ length a.1.0.now
      → (says x ≡ given tt) × (s.1.0.now ≡ sets a.1.0.now 0 (rs ++ vs ++ cs ++ ss))

-- copying out of a file that is read
copied_told : (file : List ℕ) (sections : Sections) (n : ℕ) → read_told file ≡ given sections → sections.r ≤ n → copy_told file n ≡ given tt
copied_told file sections n e h = rw (copy_rows file n, e, le-ltb n sections.r h)

written_told :
    (rs vs cs ss out : List ℕ) → plate_length rs vs cs ss ≤ most_bytes → plate_length rs vs cs ss ≤ length out
    → write_told rs vs cs ss (length out) ≡ given (plate_length rs vs cs ss)
unfolding write_told
written_told rs vs cs ss out fits room =
    rw (le-ltb most_bytes (plate_length rs vs cs ss) fits, le-ltb (length out) (plate_length rs vs cs ss) room)

module _
    (rs vs cs ss : List ℕ) (br : Below (2 ^ 32) rs) (bv : Below (2 ^ 32) vs) (bc : Below (2 ^ 32) cs) (bs : Below (2 ^ 32) ss)
    (fits : plate_length rs vs cs ss ≤ most_bytes) where
  reads_back : ReadsBack (plate_of rs vs cs ss) rs vs cs ss
  reads_back =
      record {
        reading = λ κs a x s p e. p ∙ ap read_told e ∙ plate_read rs vs cs ss br bv bc bs fits;
        copying = λ κs a x s p e h.
            let t : copy_told a.0.now (length a.1.0.now) ≡ given tt =
            ap (λ (l : List ℕ). copy_told l (length a.1.0.now)) e
            ∙ copied_told (plate_of rs vs cs ss) _ (length a.1.0.now) (plate_read rs vs cs ss br bv bc bs fits) h in (
              p.0 ∙ t,
              p.1 ∙ ap (λ (u : Told (Unit {0})). unless_refused u a.1.0.now (sets a.1.0.now 0 (copied a.0.now))) t
                  ∙ ap (λ (l : List ℕ). sets a.1.0.now 0 (copied l)) e
                  ∙ ap (sets a.1.0.now 0) (plate_copied rs vs cs ss br bv bc bs fits),
            );
      }

-- Read back as written: four lists whose plate fits are written, and the bytes written read back as those lists.
pub read_back_as_written :
    (κs : Lfts 5) (a : Dens κs write_kinds.ps) (x : (res_t write_kinds.r κs).Denot) (s : AtExit (ended_of 5 write_kinds.ps write_kinds.r) κs)
    → write_reads.Post κs a x s
    → Below (2 ^ 32) a.0.now → Below (2 ^ 32) a.1.0.now → Below (2 ^ 32) a.1.1.0.now → Below (2 ^ 32) a.1.1.1.0.now
    → plate_length a.0.now a.1.0.now a.1.1.0.now a.1.1.1.0.now ≤ most_bytes
    → plate_length a.0.now a.1.0.now a.1.1.0.now a.1.1.1.0.now ≤ length a.1.1.1.1.0.now
    → (says x ≡ given (plate_length a.0.now a.1.0.now a.1.1.0.now a.1.1.1.0.now))
    × ReadsBack (take (plate_length a.0.now a.1.0.now a.1.1.0.now a.1.1.1.0.now) s.1.1.1.1.0.now)
    a.0.now a.1.0.now a.1.1.0.now a.1.1.1.0.now
read_back_as_written κs a x s p br bv bc bs fits room =
    let rs = a.0.now in
    let vs = a.1.0.now in
    let cs = a.1.1.0.now in
    let ss = a.1.1.1.0.now in
    let out = a.1.1.1.1.0.now in
    let t = written_told rs vs cs ss out fits room in
    let after : s.1.1.1.1.0.now ≡ sets out 0 (plate_of rs vs cs ss) =
    p.1 ∙ ap (λ (u : Told ℕ). unless_refused u out (sets out 0 (plate_of rs vs cs ss))) t in
    let l = length_plate rs vs cs ss in
    let whole : take (plate_length rs vs cs ss) s.1.1.1.1.0.now ≡ plate_of rs vs cs ss =
    ap (take (plate_length rs vs cs ss)) (after ∙ sets-eq (plate_of rs vs cs ss) out 0 (omega (arith, l)))
    ∙ take_at (plate_of rs vs cs ss) _ (plate_length rs vs cs ss) l in
    (p.0 ∙ t, subst (λ (file : List ℕ). ReadsBack file rs vs cs ss) (sym whole) (reads_back rs vs cs ss br bv bc bs fits))

quarter : (n : ℕ) → 4 * n / 4 ≡ n
quarter n = omega arith

-- Written again the same: an accepted file, its words copied out, cut at its own section starts and written, gives the same bytes.
pub written_again_the_same :
    (κr : Lfts 1) (b : Dens κr read_kinds.ps) (y : (res_t read_kinds.r κr).Denot) (t : AtExit (ended_of 1 read_kinds.ps read_kinds.r) κr)
    (κc : Lfts 2) (d : Dens κc copy_kinds.ps) (z : (res_t copy_kinds.r κc).Denot) (u : AtExit (ended_of 2 copy_kinds.ps copy_kinds.r) κc)
    (κw : Lfts 5) (a : Dens κw write_kinds.ps) (x : (res_t write_kinds.r κw).Denot) (s : AtExit (ended_of 5 write_kinds.ps write_kinds.r) κw)
    (file : List ℕ) (sections : Sections)
    → Below 256 file
    → read_reads.Post κr b y t → b.0.now ≡ file → says y ≡ given sections
    → copy_reads.Post κc d z u → d.0.now ≡ file → sections.r ≤ length d.1.0.now
    → write_reads.Post κw a x s
    → a.0.now ≡ slice (sections.registers / 4) (sections.video / 4) u.1.0.now
    → a.1.0.now ≡ slice (sections.video / 4) (sections.cursor / 4) u.1.0.now
    → a.1.1.0.now ≡ slice (sections.cursor / 4) (sections.sound / 4) u.1.0.now
    → a.1.1.1.0.now ≡ slice (sections.sound / 4) (sections.trailer / 4) u.1.0.now
    → length file ≤ length a.1.1.1.1.0.now
    → (says x ≡ given (length file)) × (s.1.1.1.1.0.now ≡ sets a.1.1.1.1.0.now 0 file)
written_again_the_same κr b y t κc d z u κw a x s file sections small pr er accepted pc ed room pw e0 e1 e2 e3 fits =
    let rs = a.0.now in
    let vs = a.1.0.now in
    let cs = a.1.1.0.now in
    let ss = a.1.1.1.0.now in
    let out = a.1.1.1.1.0.now in
    let m = d.1.0.now in
    let given_read : read_told file ≡ given sections = sym (ap read_told er) ∙ sym pr ∙ accepted in
    let g = right_given file sections (sym given_read) in
    let o = right_ordered file g.is_right in
    let words : u.1.0.now ≡ sets m 0 (copied file) =
    pc.1
    ∙ ap (λ (l : List ℕ). unless_refused (copy_told l (length m)) m (sets m 0 (copied l))) ed
    ∙ ap (λ (v : Told (Unit {0})). unless_refused v m (sets m 0 (copied file))) (copied_told file sections (length m) given_read room) in
    let plate : plate_of rs vs cs ss ≡ file =
    cut_plate file g.is_right small m rs vs cs ss (omega (arith, ap (λ (q : Sections). q.r) g.are))
    (e0 ∙ rw (words, g.are, quarter))
    (e1 ∙ rw (words, g.are) (simp quarter))
    (e2 ∙ rw (words, g.are) (simp quarter))
    (e3 ∙ rw (words, g.are) (simp quarter)) in
    let l : plate_length rs vs cs ss ≡ length file = sym (length_plate rs vs cs ss) ∙ ap length plate in
    let told_write = written_told rs vs cs ss out (omega (arith, right_short file g.is_right)) (omega arith) in (
      pw.0 ∙ told_write ∙ ap given l,
      pw.1 ∙ ap (λ (v : Told ℕ). unless_refused v out (sets out 0 (plate_of rs vs cs ss))) told_write ∙ ap (sets out 0) plate,
    )
