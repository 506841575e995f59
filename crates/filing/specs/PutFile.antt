-- Three records that are written one after the other are the file. Assumes nothing.
use Rattle.std.specs.Prelude.{◌≡◌, Bool, List, ◌++◌, ℕ, ◌^◌, length}
use Rattle.std.proofs.Math.Path.{sym, transport}
use Rattle.std.proofs.Common.{ap, ◌∙◌, append_assoc, arith, length-append}
use Rattle.field.specs.Binary.{degree}
use Rattle.proximity.specs.Dim.{S}
use Rattle.stored.specs.Bytes.{packed_size}
use Rattle.stored.specs.File.{word_mark, proof_mark, narrow_of, setting_record, symbol_record, word_record, proof_record, file_of, word_record_at, proof_record_at, file_end}
use Rattle.stored.proofs.Written.{length_symbol_record, length_setting_record}
use Rattle.stored.specs.declared.Form.{Form}
use Rattle.filing.specs.Put.{Put, put_then, put_same, put_whole}

-- a record at the same place, of the same width, mark and symbols
pub put_record_same : {p q b c : ℕ} {t u : Bool} {xs ys : List ℕ} → p ≡ q → t ≡ u → b ≡ c → xs ≡ ys → (a : ℕ) (old new : List ℕ) → Put p (symbol_record t a b xs) old new → Put q (symbol_record u a c ys) old new
put_record_same ep et eb ex a old new r = transport (λ i. Put (ep i) (symbol_record (et i) a (eb i) (ex i)) old new) r

module _ (form : Form) (m : ℕ) (bs : List ℕ) (σ : ℕ) (w π : List ℕ) (ew : length w ≡ 2 ^ length bs) (ep : length π ≡ S (length bs)) where
  abbrev t : Bool
  t = narrow_of form (degree m)

  abbrev setting : List ℕ
  setting = setting_record form m bs σ

  abbrev word : List ℕ
  word = word_record form (degree m) w

  abbrev proof : List ℕ
  proof = proof_record form (degree m) π

  word_end : length (setting ++ word) ≡ proof_record_at form (degree m) (length bs)
  word_end =
      length-append setting word
      ∙ omega (arith, length_setting_record form m bs σ, length_symbol_record t 87 (word_mark form) w, ap (packed_size t) ew)

  proof-end : length (setting ++ (word ++ proof)) ≡ file_end form (degree m) (length bs)
  proof-end =
      ap length (sym (append_assoc setting word proof)) ∙ length-append (setting ++ word) proof
      ∙ omega (arith, word_end, length_symbol_record t 80 (proof_mark form) π, ap (packed_size t) ep)

  pub put-file : {old one two new : List ℕ} → length old ≡ file_end form (degree m) (length bs) → Put 0 setting old one → Put (word_record_at form (length bs)) word one two → Put (proof_record_at form (degree m) (length bs)) proof two new
      → new ≡ file_of form m bs σ w π
  unfolding file_of
  put-file room a b c =
      put_whole (room ∙ sym proof-end)
      (put_same (append_assoc setting word proof)
      (put_then (omega (arith, word_end)) (put_then (omega (arith, length_setting_record form m bs σ)) a b) c))
