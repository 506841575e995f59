use mathlib.Core.Path.{◌≡◌, ap}
use mathlib.Core.List.{List}
use Prim.Native.Nat.{ℕ, ◌-◌, ◌^◌}
use native.Mathlib.Omega.{arith}
use Rattle.lists.specs.Answers.{Passes, answers-after}
use Rattle.field.specs.Binary.{degree}
use Rattle.proximity.specs.LineLaws.{S-small}
use Rattle.refusals.specs.Refusal.{answer_of}
use Rattle.stored.specs.File.{word_mark, narrow_of, word_record_at, word_start, proof_record_at, proof_start}
use Rattle.stored.specs.Passed.{Held}
use Rattle.stored.proofs.Passed.{record_numbered, record_passed}
use Rattle.stored.specs.Reader.{word_checks, proof_checks}
use Rattle.stored.specs.declared.Form.{Form}
use Rattle.stored.specs.declared.Layout.{Layout}
use Rattle.stored.proofs.Laws.{word_count, same_record}
use Rattle.stored.proofs.records.check_symbols.Goals.{Start, After-layout-p, In_ok-check_record}
use Rattle.stored.proofs.records.check_symbols.Goals as goal

-- where the records stand
module _ (c : goal.After-layout-p) where
  abbrev start : goal.Start
  start = (goal.at.After-layout-p c).Start

  abbrev bytes : List ℕ
  bytes = start.args.file.now

  abbrev form : Form
  form = start.args.form

  abbrev k : ℕ
  k = start.args.k

  abbrev l : ℕ
  l = degree start.args.f.modulus

  abbrev found : Layout
  found = c.layout-p.result

  narrow : found.narrow ≡ narrow_of form l
  narrow = ap (λ (x : Layout). x.narrow) c.layout-p.ensures

  word : found.word ≡ word_start form k
  word = ap (λ (x : Layout). x.word) c.layout-p.ensures

  proof : found.proof ≡ proof_start form l k
  proof = ap (λ (x : Layout). x.proof) c.layout-p.ensures

-- past the word's record
module _ (c : goal.In_ok-check_record) where
  abbrev made : goal.After-layout-p
  made = (goal.at.In_ok-check_record c).After-layout-p

  passes : Passes (word_checks (form made) (bytes made) (k made) (l made))
  passes =
      let at : (found made).word - 6 ≡ word_record_at (form made) (k made) = omega (arith, word made) in
      same_record (narrow made) at c.word_mark.ensures (word_count (k made) (start made).requires.1).0 (bytes made) 87 (l made) 0 c.in_ok-check_record.ensures

  held : Held (narrow_of (form made) (l made)) (bytes made) (word_record_at (form made) (k made)) 87 (word_mark (form made)) (2 ^ k made) (l made)
  held = record_passed (narrow_of (form made) (l made)) (bytes made) (word_record_at (form made) (k made)) 87 (word_mark (form made)) (2 ^ k made) (l made) passes

pub check_record-requires-2 : goal.check_record-requires-2
check_record-requires-2 c = let e = (goal.at.check_record-requires-2 c).In_ok-check_record in
    let p = made e in
    let h = (held e).present in
    ((start p).requires.0, omega (arith, proof p), omega (arith, c.proof_length-s.ensures, S-small (k p) (omega arith)))

pub returns : goal.returns
returns c = let e = (goal.at.returns c).In_ok-check_record in
    let p = made e in
    let at : (found p).proof - 6 ≡ proof_record_at (form p) (l p) (k p) = omega (arith, proof p) in
    let r : ℕ = answer_of c.check_record-2.result in
    answers-after (word_checks (form p) (bytes p) (k p) (l p)) (proof_checks (form p) (bytes p) (k p) (l p)) r
    (record_numbered (narrow_of (form p) (l p)) (bytes p) (word_record_at (form p) (k p)) 87 (word_mark (form p)) (2 ^ k p) (l p)) (passes e)
    (same_record (narrow p) at c.proof_mark.ensures c.proof_length-s.ensures (bytes p) 80 (l p) r c.check_record-2.ensures)
