use mathlib.Core.Path.{◌≡◌, refl, sym, ap, ap₂, ◌∙◌, transport}
use mathlib.Core.List.{List}
use Prim.Native.Nat.{ℕ, ◌*◌, ◌-◌, ◌%◌, ◌^◌, ◌≤◌, ◌<◌}
use native.Mathlib.Nat.{lt_of_lt_of_le}
use native.Mathlib.Omega.{arith}
use lib.ListN.{length}
use Rattle.lists.specs.All.{Below, All-weaken}
use Rattle.lists.specs.Answers.{Passes}
use Rattle.field.specs.Binary.{degree}
use Rattle.field.specs.Checks.{degree_range}
use Rattle.space.specs.Sizes.{max_dim}
use Rattle.proximity.specs.Dim.{S}
use Rattle.proximity.specs.LineLaws.{S-small}
use Rattle.stored.specs.Accepted.{Accepted}
use Rattle.stored.proofs.Accepted.{accepted}
use Rattle.stored.specs.Bytes.{packed_size, numbers_at}
use Rattle.stored.specs.File.{word_mark, proof_mark, narrow_of, setting_record, word_record, proof_record, word_record_at, word_start, proof_record_at, proof_start, layout_of, file_end, form_in, modulus_in, degree_in, dim_in, basis_in, shift_in, narrow_in, word_in, proof_in}
use Rattle.stored.specs.Packed.{number_top, narrow_top}
use Rattle.stored.specs.Passed.{basis-first, length_basis}
use Rattle.stored.specs.Reader.{file_checks}
use Rattle.stored.specs.Whole.{Delivery}
use Rattle.stored.proofs.Whole.{accepted_delivery}
use Rattle.stored.specs.declared.Form.{Form}
use Rattle.stored.specs.declared.Layout.{Layout}
use Rattle.stored.proofs.Laws.{word_count}
use Rattle.filing.specs.Convert.{other, converted, converted_end}
use Rattle.filing.specs.ConvertLaws.{convert_passed}
use Rattle.filing.specs.Put.{Put}
use Rattle.filing.specs.PutFile.{put_record_same, put-file}
use Rattle.filing.proofs.conversion.copy.Goals.{Start, After-other_form-to, After-field_of-f, After-layout-p, After-copy_setting, After-copy_record, After-proof_length-s, After-copy_record-2}
use Rattle.filing.proofs.conversion.copy.Goals as goal

-- ---- an accepted file
module _ (c : goal.Start) where
  abbrev f : List ℕ
  f = c.args.file.now

  abbrev old : List ℕ
  old = c.args.out.now

  passed : Passes (file_checks f) × (shift_in f ≡ 0) × (length old ≡ converted_end f)
  passed = convert_passed f (length old) c.requires

  held : Accepted f
  held = accepted f passed.0

  given : Delivery (modulus_in f) (basis_in f) (shift_in f) (word_in f) (proof_in f)
  given = accepted_delivery f passed.0

  abbrev to : Form
  to = other (form_in f)

  abbrev k : ℕ
  k = dim_in f

  abbrev l : ℕ
  l = degree_in f

  few : k ≤ max_dim
  few = held.records.head.high

  room : length old ≡ file_end to l (length (basis_in f))
  room = passed.2 ∙ ap (file_end to l) (sym (length_basis f))

  -- symbols fit in the bytes of the other form
  short : (xs : List ℕ) → Below (2 ^ l) xs → Below (number_top (narrow_of to l)) xs
  short xs b = All-weaken (λ (x : ℕ). x < 2 ^ l) (λ (x : ℕ). x < number_top (narrow_of to l)) xs (λ x h. lt_of_lt_of_le h (narrow_top to l (degree_range (modulus_in f) given.setting.modulus).1)) b

-- ---- the numbers of the head
module _ (c : goal.After-other_form-to) where
  abbrev start : goal.Start
  start = (goal.at.After-other_form-to c).Start

  target : c.other_form-to.result ≡ to start
  target = c.other_form-to.ensures ∙ ap other c.form_of-form.ensures

pub bounds-file-6 : goal.bounds-file-6
bounds-file-6 c = omega (arith, (held (start (goal.at.bounds-file-6 c).After-other_form-to)).records.head.opened.present)

pub four_at-requires : goal.four_at-requires
four_at-requires c = omega (arith, (held (start (goal.at.four_at-requires c).After-other_form-to)).records.head.opened.present)

pub field_of-f-requires : goal.field_of-f-requires
field_of-f-requires c = let s = start (goal.at.field_of-f-requires c).After-other_form-to in
    let q = (given s).setting.modulus in
    (omega (arith, c.four_at.ensures, q.low), omega (arith, c.four_at.ensures, q.high))

module _ (c : goal.After-field_of-f) where
  abbrev told : goal.After-other_form-to
  told = (goal.at.After-field_of-f c).After-other_form-to

  modulus : c.field_of-f.result.modulus ≡ modulus_in (f (start told))
  modulus = c.field_of-f.ensures.modulus ∙ c.four_at.ensures

pub layout-from-requires : goal.layout-from-requires
layout-from-requires c = (c.field_of-f.ensures.sized, few (start (told c)))

pub layout-p-requires : goal.layout-p-requires
layout-p-requires c = (c.field_of-f.ensures.sized, few (start (told (goal.at.layout-p-requires c).After-field_of-f)))

-- ---- the two layouts
module _ (c : goal.After-layout-p) where
  abbrev field : goal.After-field_of-f
  field = (goal.at.After-layout-p c).After-field_of-f

  abbrev s : goal.Start
  s = (goal.at.After-layout-p c).Start

  from : c.layout-from.result ≡ layout_of (form_in (f s)) (l s) (k s)
  from = c.layout-from.ensures ∙ λ i. layout_of ((told field).form_of-form.ensures i) (degree (modulus field i)) (k s)

  into : c.layout-p.result ≡ layout_of (to s) (l s) (k s)
  into = c.layout-p.ensures ∙ λ i. layout_of (target (told field) i) (degree (modulus field i)) (k s)

  -- where the symbols are read
  wide : c.layout-from.result.narrow ≡ narrow_in (f s)
  wide = ap (λ (x : Layout). x.narrow) from

  word-from : c.layout-from.result.word ≡ word_start (form_in (f s)) (k s)
  word-from = ap (λ (x : Layout). x.word) from

  proof-from : c.layout-from.result.proof ≡ proof_start (form_in (f s)) (l s) (k s)
  proof-from = ap (λ (x : Layout). x.proof) from

  -- and where they are written
  narrow : c.layout-p.result.narrow ≡ narrow_of (to s) (l s)
  narrow = ap (λ (x : Layout). x.narrow) into

  second : c.layout-p.result.word - 6 ≡ word_record_at (to s) (length (basis_in (f s)))
  second = omega (arith, ap (λ (x : Layout). x.word) into, ap (word_record_at (to s)) (length_basis (f s)))

  third : c.layout-p.result.proof - 6 ≡ proof_record_at (to s) (l s) (length (basis_in (f s)))
  third = omega (arith, ap (λ (x : Layout). x.proof) into, ap (proof_record_at (to s) (l s)) (length_basis (f s)))

pub copy_setting-requires : goal.copy_setting-requires
copy_setting-requires c = let p = (goal.at.copy_setting-requires c).After-layout-p in
    let h = (held (s p)).records.head in (
      few (s p),
      omega (arith, h.basis, basis-first (form_in (f (s p))) (k (s p))),
      refl,
      transport (λ i. word_record_at (sym (target (told (field p))) i) (k (s p)) ≤ length (old (s p))) (omega (arith, (passed (s p)).2)),
    )

-- ---- the records
module _ (c : goal.After-copy_setting) where
  abbrev laid : goal.After-layout-p
  laid = (goal.at.After-copy_setting c).After-layout-p

  abbrev one : List ℕ
  one = c.copy_setting.new.out

  first : Put 0 (setting_record (to (s laid)) (modulus_in (f (s laid))) (basis_in (f (s laid))) 0) (old (s laid)) one
  first =
      transport (λ i. Put 0 (setting_record (target (told (field laid)) i) (modulus_in (f (s laid))) (basis_in (f (s laid))) 0) (old (s laid)) one) c.copy_setting.ensures

  abbrev n : ℕ
  n = 1 * 2 ^ k (s laid) % 18446744073709551616

  count : (n ≡ 2 ^ k (s laid)) × (2 ^ k (s laid) ≤ 2 ^ max_dim)
  count = word_count (k (s laid)) (few (s laid))

  -- the word that is read
  word : numbers_at laid.layout-from.result.narrow (f (s laid)) laid.layout-from.result.word n ≡ word_in (f (s laid))
  unfolding word_in
  word = λ i. numbers_at (wide laid i) (f (s laid)) (word-from laid i) (count.0 i)

pub overflow_shl-n : goal.overflow_shl-n
overflow_shl-n c = omega (arith, few (s (laid (goal.at.overflow_shl-n c).After-copy_setting)))

pub overflow_sub-word : goal.overflow_sub-word
overflow_sub-word c = let p = laid (goal.at.overflow_sub-word c).After-copy_setting in omega (arith, ap (λ (x : Layout). x.word) (into p))

pub copy_record-requires : goal.copy_record-requires
copy_record-requires c = let a = (goal.at.copy_record-requires c).After-copy_setting in
    let p = laid a in
    let e = count a in
    let h = (held (s p)).records.word in
    let reads : packed_size p.layout-from.result.narrow (n a) ≡ packed_size (narrow_in (f (s p))) (2 ^ k (s p)) = ap₂ packed_size (wide p) e.0 in
    let writes : packed_size p.layout-p.result.narrow (n a) ≡ packed_size (narrow_of (to (s p)) (l (s p))) (2 ^ k (s p)) = ap₂ packed_size (narrow p) e.0 in (
      omega arith,
      omega (arith, reads, word-from p, h.present),
      omega (arith, writes, (first a).kept, (passed (s p)).2, ap (λ (x : Layout). x.word) (into p)),
      transport (λ i. Below (number_top (sym (narrow p) i)) (sym (word a) i)) (short (s p) (word_in (f (s p))) (given (s p)).word-symbols),
    )

module _ (c : goal.After-copy_record) where
  abbrev begun : goal.After-copy_setting
  begun = (goal.at.After-copy_record c).After-copy_setting

  abbrev p : goal.After-layout-p
  p = (goal.at.After-copy_record c).After-layout-p

  abbrev two : List ℕ
  two = c.copy_record.new.out

  middle : Put (word_record_at (to (s p)) (length (basis_in (f (s p))))) (word_record (to (s p)) (l (s p)) (word_in (f (s p)))) (one begun) two
  middle =
      put_record_same (second p) (narrow p) (c.word_mark.ensures ∙ ap word_mark (target (told (field p)))) (word begun) 87 (one begun) two
      c.copy_record.ensures

pub proof_length-s-requires : goal.proof_length-s-requires
proof_length-s-requires c = few (s (p (goal.at.proof_length-s-requires c).After-copy_record))

pub overflow_sub-proof : goal.overflow_sub-proof
overflow_sub-proof c = let q = p (goal.at.overflow_sub-proof c).After-copy_record in omega (arith, ap (λ (x : Layout). x.proof) (into q))

-- the proof that is read
module _ (c : goal.After-proof_length-s) where
  abbrev both : goal.After-copy_record
  both = (goal.at.After-proof_length-s c).After-copy_record

  abbrev q : goal.After-layout-p
  q = (goal.at.After-proof_length-s c).After-layout-p

  proof : numbers_at q.layout-from.result.narrow (f (s q)) q.layout-from.result.proof c.proof_length-s.result ≡ proof_in (f (s q))
  unfolding proof_in
  proof = λ i. numbers_at (wide q i) (f (s q)) (proof-from q i) (c.proof_length-s.ensures i)

pub copy_record-requires-2 : goal.copy_record-requires-2
copy_record-requires-2 c = let a = (goal.at.copy_record-requires-2 c).After-proof_length-s in
    let r = q a in
    let h = (held (s r)).records.proof in
    let e = a.proof_length-s.ensures in
    let reads : packed_size r.layout-from.result.narrow a.proof_length-s.result ≡ packed_size (narrow_in (f (s r))) (S (k (s r))) = ap₂ packed_size (wide r) e in
    let writes : packed_size r.layout-p.result.narrow a.proof_length-s.result ≡ packed_size (narrow_of (to (s r)) (l (s r))) (S (k (s r))) = ap₂ packed_size (narrow r) e in (
      omega (arith, e, S-small (k (s r)) (omega (arith, few (s r)))),
      omega (arith, reads, proof-from r, h.present),
      omega (arith, writes, (middle (both a)).kept, (first (begun (both a))).kept, (passed (s r)).2, ap (λ (x : Layout). x.proof) (into r)),
      transport (λ i. Below (number_top (sym (narrow r) i)) (sym (proof a) i)) (short (s r) (proof_in (f (s r))) (given (s r)).proof-symbols),
    )

module _ (c : goal.After-copy_record-2) where
  abbrev measured : goal.After-proof_length-s
  measured = (goal.at.After-copy_record-2 c).After-proof_length-s

  abbrev r : goal.After-layout-p
  r = (goal.at.After-copy_record-2 c).After-layout-p

  abbrev new : List ℕ
  new = c.copy_record-2.new.out

  last : Put (proof_record_at (to (s r)) (l (s r)) (length (basis_in (f (s r))))) (proof_record (to (s r)) (l (s r)) (proof_in (f (s r)))) (two (both measured)) new
  last =
      put_record_same (third r) (narrow r) (c.proof_mark.ensures ∙ ap proof_mark (target (told (field r)))) (proof measured) 80 (two (both measured)) new
      c.copy_record-2.ensures

  written : new ≡ converted (f (s r))
  written =
      put-file (to (s r)) (modulus_in (f (s r))) (basis_in (f (s r))) 0 (word_in (f (s r))) (proof_in (f (s r))) (given (s r)).word (given (s r)).proof (room (s r))
      (first (begun (both measured))) (middle (both measured)) last

pub shape_of-out : goal.shape_of-out
shape_of-out c = let x = (goal.at.shape_of-out c).After-copy_record-2 in (last x).kept ∙ (middle (both (measured x))).kept ∙ (first (begun (both (measured x)))).kept

pub returns : goal.returns
returns c = written (goal.at.returns c).After-copy_record-2
