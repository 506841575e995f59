use mathlib.Core.Path.{◌≡◌, refl, sym, ap, ap₂, ◌∙◌, subst}
use mathlib.Core.Bool.{Bool}
use mathlib.Core.List.{List}
use Prim.Native.Nat.{ℕ, ◌-◌, ◌^◌, ◌≤◌, ◌<◌}
use native.Mathlib.Nat.{lt_of_lt_of_le}
use native.Mathlib.Omega.{arith}
use lib.ListN.{length}
use lib.Pow.{pow_mono}
use Rattle.std.proofs.lemmas.Result.{err_from_is_err_and}
use Rattle.lists.specs.All.{Below, All-weaken}
use Rattle.lists.specs.Answers.{Passes}
use Rattle.field.specs.Binary.{degree}
use Rattle.field.specs.Checks.{degree_range}
use Rattle.space.specs.Sizes.{max_dim}
use Rattle.proximity.specs.Dim.{S}
use Rattle.proximity.specs.LineLaws.{S-small}
use Rattle.stored.specs.Bytes.{packed_size}
use Rattle.stored.specs.File.{narrow_of, setting_record, word_record, proof_record, file_of, word_record_at, proof_record_at, layout_of, file_end}
use Rattle.stored.specs.Packed.{number_top, narrow_top}
use Rattle.stored.specs.Whole.{Delivery}
use Rattle.stored.specs.declared.Form.{Form}
use Rattle.stored.specs.declared.Layout.{Layout}
use Rattle.filing.specs.Put.{Put}
use Rattle.filing.specs.PutFile.{put_record_same, put-file}
use Rattle.filing.specs.Writer.{writer_checks}
use Rattle.filing.specs.WriterLaws.{writer_passed}
use Rattle.filing.proofs.writer.write_form.Goals.{Start, In_ok-f, After-layout-p, After-put_setting, After-put_record, After-put_record-2}
use Rattle.filing.proofs.writer.write_form.Goals as goal

pub returns-in_err-f : goal.returns-in_err-f
returns-in_err-f c = let out = err_from_is_err_and c.from_residual.result c.from_residual.ensures.1 in rw (out.1, out.2) (c.in_err-f.ensures, refl)

-- the checks pass
module _ (c : goal.In_ok-f) where
  abbrev start : goal.Start
  start = (goal.at.In_ok-f c).Start

  abbrev g : Form
  g = start.args.form

  abbrev m : ℕ
  m = start.args.modulus

  abbrev bs : List ℕ
  bs = start.args.basis.now

  abbrev σ : ℕ
  σ = start.args.shift

  abbrev w : List ℕ
  w = start.args.word.now

  abbrev π : List ℕ
  π = start.args.proof.now

  abbrev old : List ℕ
  old = start.args.out.now

  passes : Passes (writer_checks g m bs σ w π (length old))
  passes = c.in_ok-f.ensures.0

  given : Delivery m bs σ w π
  given = (writer_passed g m bs σ w π (length old) passes).0

  room : length old ≡ file_end g (degree m) (length bs)
  room = (writer_passed g m bs σ w π (length old) passes).1

  few : length bs ≤ max_dim
  few = given.setting.high

-- the places
module _ (c : goal.After-layout-p) where
  abbrev e : goal.In_ok-f
  e = (goal.at.After-layout-p c).In_ok-f

  abbrev p : Layout
  p = c.layout-p.result

  found : p ≡ layout_of (g e) (degree (m e)) (length (bs e))
  found = c.layout-p.ensures ∙ ap (λ (q : ℕ). layout_of (g e) (degree q) (length (bs e))) e.in_ok-f.ensures.1.modulus

  abbrev t : Bool
  t = narrow_of (g e) (degree (m e))

  narrow : p.narrow ≡ t
  narrow = ap (λ (x : Layout). x.narrow) found

  second : p.word - 6 ≡ word_record_at (g e) (length (bs e))
  second = omega (arith, ap (λ (x : Layout). x.word) found)

  third : p.proof - 6 ≡ proof_record_at (g e) (degree (m e)) (length (bs e))
  third = omega (arith, ap (λ (x : Layout). x.proof) found)

  word_size : packed_size p.narrow (length (w e)) ≡ packed_size t (2 ^ length (bs e))
  word_size = ap₂ packed_size narrow (given e).word

  proof-size : packed_size p.narrow (length (π e)) ≡ packed_size t (S (length (bs e)))
  proof-size = ap₂ packed_size narrow (given e).proof

  -- symbols fit in their bytes
  short : (xs : List ℕ) → Below (2 ^ degree (m e)) xs → Below (number_top p.narrow) xs
  short xs b =
      subst (λ (u : Bool). Below (number_top u) xs) (sym narrow)
      (All-weaken (λ (x : ℕ). x < 2 ^ degree (m e)) (λ (x : ℕ). x < number_top t) xs (λ x l. lt_of_lt_of_le l (narrow_top (g e) (degree (m e)) (degree_range (m e) (given e).setting.modulus).1)) b)

-- the setting is written
module _ (c : goal.After-put_setting) where
  abbrev laid : goal.After-layout-p
  laid = (goal.at.After-put_setting c).After-layout-p

  abbrev one : List ℕ
  one = c.put_setting.new.out

  first : Put 0 (setting_record (g (e laid)) (m (e laid)) (bs (e laid)) (σ (e laid))) (old (e laid)) one
  first = c.put_setting.ensures

pub put_record-requires : goal.put_record-requires
put_record-requires c = let s = (goal.at.put_record-requires c).After-put_setting in
    let l = laid s in
    let h = e l in (
      omega (arith, (given h).word, pow_mono {i = length (bs h)} {j = max_dim} (few h)),
      omega (arith, (first s).kept, room h, second l, word_size l),
      short l (w h) (given h).word-symbols,
    )

-- the word
module _ (c : goal.After-put_record) where
  abbrev begun : goal.After-put_setting
  begun = (goal.at.After-put_record c).After-put_setting

  abbrev made : goal.After-layout-p
  made = (goal.at.After-put_record c).After-layout-p

  abbrev two : List ℕ
  two = c.put_record.new.out

  middle : Put (word_record_at (g (e made)) (length (bs (e made)))) (word_record (g (e made)) (degree (m (e made))) (w (e made))) (one begun) two
  middle = put_record_same {xs = w (e made)} (second made) (narrow made) c.word_mark.ensures refl 87 (one begun) two c.put_record.ensures

pub put_record-requires-2 : goal.put_record-requires-2
put_record-requires-2 c = let s = (goal.at.put_record-requires-2 c).After-put_record in
    let l = made s in
    let h = e l in (
      omega (arith, (given h).proof, S-small (length (bs h)) (omega (arith, few h))),
      omega (arith, (middle s).kept, (first (begun s)).kept, room h, third l, proof-size l),
      short l (π h) (given h).proof-symbols,
    )

-- the proof
module _ (c : goal.After-put_record-2) where
  abbrev both : goal.After-put_record
  both = (goal.at.After-put_record-2 c).After-put_record

  abbrev l : goal.After-layout-p
  l = (goal.at.After-put_record-2 c).After-layout-p

  abbrev h : goal.In_ok-f
  h = (goal.at.After-put_record-2 c).In_ok-f

  abbrev new : List ℕ
  new = c.put_record-2.new.out

  last : Put (proof_record_at (g h) (degree (m h)) (length (bs h))) (proof_record (g h) (degree (m h)) (π h)) (two both) new
  last = put_record_same {xs = π h} (third l) (narrow l) c.proof_mark.ensures refl 80 (two both) new c.put_record-2.ensures

  written : new ≡ file_of (g h) (m h) (bs h) (σ h) (w h) (π h)
  written = put-file (g h) (m h) (bs h) (σ h) (w h) (π h) (given h).word (given h).proof (room h) (first (begun both)) (middle both) last

pub returns : goal.returns
returns c = let p = (goal.at.returns c).After-put_record-2 in (passes (h p), written p)
