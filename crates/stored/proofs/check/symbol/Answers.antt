use mathlib.Core.Path.{sym, ap, ◌∙◌, subst}
use mathlib.Core.List.{List}
use Prim.Native.Nat.{ℕ, ◌^◌, ◌<◌}
use native.Mathlib.Omega.{arith}
use Rattle.proximity.specs.Dim.{S}
use Rattle.proximity.specs.PlaceLaws.{place_inside}
use Rattle.proximity.specs.Reads.{Inside}
use Rattle.proximity.specs.Verifier.{read_at}
use Rattle.proximity.specs.declared.Place.{Place}
use Rattle.stored.specs.Bytes.{numbers_at}
use Rattle.stored.specs.Packed.{size-more, get_or_numbers}
use Rattle.stored.proofs.check.symbol.Goals.{Start, After-place, In-InWord, In-InProof}
use Rattle.stored.proofs.check.symbol.Goals as goal

pub place-requires : goal.place-requires
place-requires c = (c.requires.0.few, c.requires.1)

-- the place lies inside word or proof
module _ (c : goal.After-place) where
  abbrev start : goal.Start
  start = (goal.at.After-place c).Start

  abbrev k : ℕ
  k = start.args.k

  abbrev bytes : List ℕ
  bytes = start.args.file.now

  inside : Inside (2 ^ k) (S k) c.place.result
  inside = subst (Inside (2 ^ k) (S k)) (sym c.place.ensures) (place_inside k start.args.coin start.args.i start.requires.1)

  abbrev read : Place → ℕ
  read = read_at (numbers_at start.args.narrow bytes start.args.word (2 ^ k)) (numbers_at start.args.narrow bytes start.args.proof (S k))

-- in the word
module _ (c : goal.In-InWord) where
  abbrev found : goal.After-place
  found = (goal.at.In-InWord c).After-place

  abbrev i : ℕ
  i = c.in-InWord.p

  in-word : i < 2 ^ k found
  in-word = subst (Inside (2 ^ k found) (S (k found))) c.in-InWord.is (inside found)

-- in the proof
module _ (c : goal.In-InProof) where
  abbrev found' : goal.After-place
  found' = (goal.at.In-InProof c).After-place

  abbrev j : ℕ
  j = c.in-InProof.p

  in-proof : j < S (k found')
  in-proof = subst (Inside (2 ^ k found') (S (k found'))) c.in-InProof.is (inside found')

pub number_at-requires : goal.number_at-requires
number_at-requires c = let a = start (found c) in omega (arith, size-more a.args.narrow (in-word c), a.requires.0.word_fits)

pub number_at-requires-in-InProof : goal.number_at-requires-in-InProof
number_at-requires-in-InProof c = let a = start (found' c) in omega (arith, size-more a.args.narrow (in-proof c), a.requires.0.proof-fits)

pub returns-in-InWord : goal.returns-in-InWord
returns-in-InWord c = let t = (goal.at.returns-in-InWord c).In-InWord in
    let f = found t in
    c.number_at.ensures
    ∙ sym (ap (read f) (sym f.place.ensures) ∙ ap (read f) t.in-InWord.is ∙ get_or_numbers (start f).args.narrow (bytes f) (start f).args.word (2 ^ k f) (i t) (in-word t))

pub returns-in-InProof : goal.returns-in-InProof
returns-in-InProof c = let t = (goal.at.returns-in-InProof c).In-InProof in
    let f = found' t in
    c.number_at-in-InProof.ensures
    ∙ sym (ap (read f) (sym f.place.ensures) ∙ ap (read f) t.in-InProof.is ∙ get_or_numbers (start f).args.narrow (bytes f) (start f).args.proof (S (k f)) (j t) (in-proof t))
