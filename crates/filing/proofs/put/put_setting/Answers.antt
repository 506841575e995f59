use mathlib.Core.Path.{◌≡◌, refl, subst}
use mathlib.Core.Bool.{false}
use mathlib.Core.List.{List, [], ◌∷◌, ◌++◌}
use Prim.Native.Nat.{ℕ, ◌+◌, ◌*◌, ◌≤◌, ◌<◌}
use native.Mathlib.Omega.{arith}
use lib.ListN.{length, set}
use Rattle.lists.specs.All.{All-of}
use Rattle.stored.specs.Bytes.{four_bytes, packed}
use Rattle.stored.specs.File.{setting_mark, shift_bytes, setting_record, word_record_at}
use Rattle.stored.specs.Packed.{length_packed}
use Rattle.stored.specs.declared.Form.{Form}
use Rattle.stored.specs.declared.Form.TheVariants.{One, Two}
use Rattle.filing.specs.Put.{Put, put_byte, put_then}
use borrow.Author.Rules.{rules}
use Rattle.filing.proofs.put.put_setting.Goals.{Start, After-put_head, After-put_numbers, After-put_shift}
use Rattle.filing.proofs.put.put_setting.Goals as goal

-- the length of the record, by the form
long : (g : Form) (k σ : ℕ) → 7 + 2 * k + length (shift_bytes g σ) ≡ word_record_at g k
long One k σ = omega arith
long Two k σ = omega arith

pub put_head-requires : goal.put_head-requires
put_head-requires c = let s = (goal.at.put_head-requires c).Start in omega (arith, s.requires.1, long s.args.form (length s.args.basis.now) s.args.shift)

-- mark, modulus and k
module _ (c : goal.After-put_head) where
  abbrev start : goal.Start
  start = (goal.at.After-put_head c).Start

  abbrev form : Form
  form = start.args.form

  abbrev old : List ℕ
  old = start.args.out.now

  abbrev basis : List ℕ
  basis = start.args.basis.now

  abbrev mid : List ℕ
  mid = c.put_head.new.out

  abbrev front : List ℕ
  front = 83 ∷ setting_mark form ∷ four_bytes start.args.modulus ++ (length basis ∷ [])

  room : 7 + 2 * length basis + length (shift_bytes form start.args.shift) ≤ length old
  room = omega (arith, start.requires.1, long form (length basis) start.args.shift)

  head : Put 0 (83 ∷ setting_mark form ∷ four_bytes start.args.modulus) old mid
  head = subst (λ (b : ℕ). Put 0 (83 ∷ b ∷ four_bytes start.args.modulus) old mid) c.setting_mark.ensures c.put_head.ensures

  opened : Put 0 front old (set mid 6 (length basis))
  opened =
      put_then {xs = 83 ∷ setting_mark form ∷ four_bytes start.args.modulus} {ys = length basis ∷ []} refl head
      (put_byte 6 (length basis) mid (omega (arith, head.kept, room)))

pub bounds-out-6 : goal.bounds-out-6
bounds-out-6 c = let t = (goal.at.bounds-out-6 c).After-put_head in omega (arith, (head t).kept, room t)

pub put_numbers-requires : goal.put_numbers-requires
put_numbers-requires c = let t = (goal.at.put_numbers-requires c).After-put_head in
    (omega (arith, (opened t).kept, room t), All-of (λ (x : ℕ). x < 65536) (basis t) 0 (λ i h. search rules))

-- the basis
module _ (c : goal.After-put_numbers) where
  abbrev here : goal.After-put_head
  here = (goal.at.After-put_numbers c).After-put_head

  based : Put 0 (front here ++ packed false (basis here)) (old here) c.put_numbers.new.out
  based = put_then {xs = front here} {ys = packed false (basis here)} refl (opened here) c.put_numbers.ensures

pub overflow_mul-k : goal.overflow_mul-k
overflow_mul-k c = let h = here (goal.at.overflow_mul-k c).After-put_numbers in omega (arith, (start h).requires.0)

pub overflow_add-k : goal.overflow_add-k
overflow_add-k c = let h = here (goal.at.overflow_add-k c).After-put_numbers in omega (arith, (start h).requires.0)

pub put_shift-requires : goal.put_shift-requires
put_shift-requires c = let t = (goal.at.put_shift-requires c).After-put_numbers in omega (arith, (based t).kept, room (here t))

-- the shift
module _ (c : goal.After-put_shift) where
  abbrev numbers : goal.After-put_numbers
  numbers = (goal.at.After-put_shift c).After-put_numbers

  whole : Put 0 (setting_record (form (here numbers)) (start (here numbers)).args.modulus (basis (here numbers)) (start (here numbers)).args.shift) (old (here numbers)) c.put_shift.new.out
  whole =
      put_then {xs = front (here numbers) ++ packed false (basis (here numbers))} {ys = shift_bytes (form (here numbers)) (start (here numbers)).args.shift}
      (omega (arith, length_packed false (basis (here numbers)))) (based numbers) c.put_shift.ensures

pub shape_of-out : goal.shape_of-out
shape_of-out c = (whole (goal.at.shape_of-out c).After-put_shift).kept

pub returns : goal.returns
returns c = whole (goal.at.returns c).After-put_shift
