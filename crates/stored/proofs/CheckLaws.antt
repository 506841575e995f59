-- The answer over stored bytes, from the reading and the verdict. Assumes nothing.
use Rattle.std.specs.Prelude.{◌≡◌, refl, Bool, Result, Ok, List, [], ◌∷◌, ℕ, ◌^◌, ◌≤◌, ◌<◌}
use Rattle.std.proofs.Common.{sym, ◌∙◌, inl, inr, arith}
use Rattle.std.proofs.Math.Path.{ap, subst, transport}
use Rattle.lists.specs.All.{Below}
use Rattle.lists.specs.Answers.{Checks, Answers, Passes, Refuses, answers_one, answers-after, refused_first}
use Rattle.field.specs.Binary.{degree}
use Rattle.field.specs.Symbols.{symbols}
use Rattle.poly.specs.Codeword.{Basis}
use Rattle.space.specs.Images.{Images}
use Rattle.space.specs.Ready.{Ready}
use Rattle.proximity.specs.Dim.{S, R}
use Rattle.verifier.specs.Checker.{read_checks, OnCoin}
use Rattle.verifier.specs.Parts.{InSpace, ready_space}
use Rattle.verifier.specs.Verdicts.{answered_alike}
use Rattle.refusals.specs.declared.Refusal.{Refusal}
use Rattle.verifier.specs.declared.Verdict.{Verdict}
use Rattle.stored.specs.Accepted.{Accepted, Places}
use Rattle.stored.proofs.Accepted.{accepted, setting-passes, setting_ready, file_numbered, read_places}
use Rattle.stored.specs.Bytes.{numbers_at}
use Rattle.stored.specs.Check.{coin_checks, AnsweredFile, Laid}
use Rattle.stored.specs.File.{modulus_in, dim_in, basis_in, narrow_in, word_in, proof_in}
use Rattle.stored.specs.InRange.{reads_pass}
use Rattle.stored.specs.Passed.{length_basis}
use Rattle.stored.specs.Reader.{file_checks, read_of, Told}
use Rattle.stored.specs.declared.Reading.{Reading}

-- ---- the checks

module _ (f : List ℕ) (coin : ℕ) where
  abbrev eight : Checks
  eight = (8, 2 ^ R (dim_in f) ≤ coin) ∷ []

  -- a refused file, and a coin out of range
  pub refused_file : (n : ℕ) → Refuses (file_checks f) n → Refuses (coin_checks f coin) n
  refused_file n (l, a) = (l, refused_first (file_checks f) eight n l a)

  pub refused_coin : Passes (file_checks f) → 2 ^ R (dim_in f) ≤ coin → Refuses (coin_checks f coin) 8
  refused_coin p h = (omega arith, answers-after (file_checks f) eight 8 (file_numbered f) p (inl (h, refl)))

  pub coin_passes : Passes (file_checks f) → coin < 2 ^ R (dim_in f) → Passes (coin_checks f coin)
  coin_passes p h = answers-after (file_checks f) eight 0 (file_numbered f) p (inr ((λ l. omega arith), refl))

-- ---- an accepted file

module _ (f : List ℕ) (r : Reading) (t : Told (file_checks f) f (Ok r)) where
  pub read-passes : Passes (file_checks f)
  read-passes = t.0

  held : Accepted f
  held = accepted f read-passes

  places : Places f r
  places = read_places f r t

  pub read_ready : Ready (modulus_in f) (basis_in f) r.setting
  unfolding read_of
  read_ready =
      setting_ready f r.setting
      (setting-passes f held.records.head held.records.setting, ap (λ (x : Reading). x.setting) t.1)

  modulus : r.setting.field.modulus ≡ modulus_in f
  modulus = read_ready.modulus

  pub read_dimension : r.setting.space.k ≡ dim_in f
  read_dimension = read_ready.dimension ∙ length_basis f

  -- what the verdict asks
  pub read-basis : Basis (symbols r.setting.field.modulus) r.setting.space.k (basis_in f)
  read-basis =
      subst (λ (q : ℕ). Basis (symbols q) r.setting.space.k (basis_in f)) (sym modulus)
      (subst (λ (k : ℕ). Basis (symbols (modulus_in f)) k (basis_in f)) (sym read_ready.dimension) read_ready.sound.basis)

  pub read-images : Images (symbols r.setting.field.modulus) (basis_in f) r.setting.space.images
  read-images = subst (λ (q : ℕ). Images (symbols q) (basis_in f) r.setting.space.images) (sym modulus) read_ready.images

  pub read_space : InSpace r.setting.field r.setting.space.k r.setting.space.images
  read_space =
      subst (λ (k : ℕ). InSpace r.setting.field k r.setting.space.images) (sym read_ready.dimension) (ready_space read_ready)

  pub read_laid : Laid r.narrow f r.setting.space.k r.word r.proof
  read_laid =
      subst (λ (t : Bool). Laid t f r.setting.space.k r.word r.proof) (sym places.narrow)
      (subst (λ (k : ℕ). Laid (narrow_in f) f k r.word r.proof) (sym read_dimension)
      (record {
        few = held.records.head.high;
        word_fits = omega (arith, places.word, held.records.word.present);
        proof-fits = omega (arith, places.proof, held.records.proof.present);
      }))

  -- the word's symbols are in range
  pub read_below : Below (2 ^ degree r.setting.field.modulus) (numbers_at r.narrow f r.word (2 ^ r.setting.space.k))
  read_below = transport (λ i. Below (2 ^ degree (sym modulus i)) (numbers_at (sym places.narrow i) f (sym places.word i) (2 ^ sym read_dimension i))) held.records.word.symbols

  -- the verdict is that on the word and the proof of the file
  pub read_answer : (coin : ℕ) → coin < 2 ^ R (dim_in f) → (v : Result Verdict Refusal)
      → OnCoin (symbols r.setting.field.modulus) r.setting.space.k (basis_in f) (numbers_at r.narrow f r.word (2 ^ r.setting.space.k)) (numbers_at r.narrow f r.proof (S r.setting.space.k)) coin v
      → AnsweredFile f coin v
  unfolding word_in proof_in
  read_answer coin h v j =
      answered_alike (read_checks (symbols (modulus_in f)) (dim_in f) (word_in f) (proof_in f) coin) (coin_checks f coin) both_pass (symbols (modulus_in f)) (dim_in f) (basis_in f) (word_in f) (proof_in f) coin v
      (transport (λ i. OnCoin (symbols (modulus i)) (read_dimension i) (basis_in f) (numbers_at (places.narrow i) f (places.word i) (2 ^ read_dimension i)) (numbers_at (places.narrow i) f (places.proof i) (S (read_dimension i))) coin v) j)
    where
      both_pass : (n : ℕ) → Answers (read_checks (symbols (modulus_in f)) (dim_in f) (word_in f) (proof_in f) coin) n → Answers (coin_checks f coin) n
      both_pass n a =
          subst (Answers (coin_checks f coin))
          (answers_one (read_checks (symbols (modulus_in f)) (dim_in f) (word_in f) (proof_in f) coin) (reads_pass (modulus_in f) (dim_in f) (word_in f) (proof_in f) coin held.records.word.symbols held.records.proof.symbols) a)
          (coin_passes f coin read-passes h)
