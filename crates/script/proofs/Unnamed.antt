-- Names that no command, unit, field or codec has.
use Rattle.std.proofs.Common.{◌≡◌, ℕ, false, List, None, codes, IsUtf8, sym, refl, subst, inl, inr}
use lib.Utf8.{encode}
use Rattle.std.specs.Str.{bytes_eq}
use Rattle.std.proofs.lemmas.Slice.Eq.{bytes_eq-Decides}
use Rattle.std.proofs.lemmas.Bool.{cases_Bool}
use Rattle.script.specs.Language.{query_named}
use Rattle.script.specs.Named.{unit_named, field_named, codec_named}

unnamed : (name other : List ℕ) → (name ≡ other → ⊥) → bytes_eq name other ≡ false
unnamed name other ne =
    elim (cases_Bool (bytes_eq name other)) [
      | inl e ↦ absurd (ne ((bytes_eq-Decides name other).0 e))
      | inr e ↦ e
    ]

pub no_unit : (word : List ℕ) → (word ≡ codes "byte" → ⊥) → (word ≡ codes "word" → ⊥) → None ≡ unit_named word
no_unit word a b = simp (unnamed word (codes "byte") a, unnamed word (codes "word") b)

pub no_field : (word : List ℕ) → (word ≡ codes "BabyBear" → ⊥) → (word ≡ codes "Goldilocks" → ⊥) → None ≡ field_named word
no_field word a b = simp (unnamed word (codes "BabyBear") a, unnamed word (codes "Goldilocks") b)

pub no_codec : (word : List ℕ) → (word ≡ codes "BabyBear" → ⊥) → (word ≡ codes "Goldilocks" → ⊥) → (word ≡ codes "GoldilocksShort" → ⊥) → None ≡ codec_named word
no_codec word a b c =
    simp (
      unnamed word (codes "BabyBear") a,
      unnamed word (codes "Goldilocks") b,
      unnamed word (codes "GoldilocksShort") c,
    )

pub no_query : (name : List ℕ) (args : List (List ℕ)) → (name ≡ codes "width" → ⊥) → (name ≡ codes "encode-len" → ⊥) → (name ≡ codes "decode-len" → ⊥) → (name ≡ codes "keccak" → ⊥) → (name ≡ codes "items" → ⊥) → (name ≡ codes "encode" → ⊥) → (name ≡ codes "decode" → ⊥) → (name ≡ codes "bits" → ⊥) → (name ≡ codes "tag" → ⊥) → None ≡ query_named name args
no_query name args not-width not-encode-len not-decode-len not-keccak not-items not-encode not-decode not-bits not-tag =
    simp (
      unnamed name (codes "width") not-width,
      unnamed name (codes "encode-len") not-encode-len,
      unnamed name (codes "decode-len") not-decode-len,
      unnamed name (codes "keccak") not-keccak,
      unnamed name (codes "items") not-items,
      unnamed name (codes "encode") not-encode,
      unnamed name (codes "decode") not-decode,
      unnamed name (codes "bits") not-bits,
      unnamed name (codes "tag") not-tag,
    )

-- every name is text
module _ (name : List ℕ) (not-text : IsUtf8 name → ⊥) where
  other : (n : List ℕ) → IsUtf8 n → name ≡ n → ⊥
  other n text e = not-text (subst IsUtf8 (sym e) text)

  pub no_unit_bytes : None ≡ unit_named name
  unfolding encode
  no_unit_bytes = no_unit name (other (codes "byte") (codes "byte", (refl, refl))) (other (codes "word") (codes "word", (refl, refl)))

  pub no_field_bytes : None ≡ field_named name
  unfolding encode
  no_field_bytes =
      no_field name (other (codes "BabyBear") (codes "BabyBear", (refl, refl)))
      (other (codes "Goldilocks") (codes "Goldilocks", (refl, refl)))

  pub no_codec_bytes : None ≡ codec_named name
  unfolding encode
  no_codec_bytes =
      no_codec name (other (codes "BabyBear") (codes "BabyBear", (refl, refl)))
      (other (codes "Goldilocks") (codes "Goldilocks", (refl, refl)))
      (other (codes "GoldilocksShort") (codes "GoldilocksShort", (refl, refl)))

  pub no_query_bytes : (args : List (List ℕ)) → None ≡ query_named name args
  unfolding encode
  no_query_bytes args =
      no_query name args (other (codes "width") (codes "width", (refl, refl)))
      (other (codes "encode-len") (codes "encode-len", (refl, refl)))
      (other (codes "decode-len") (codes "decode-len", (refl, refl)))
      (other (codes "keccak") (codes "keccak", (refl, refl)))
      (other (codes "items") (codes "items", (refl, refl)))
      (other (codes "encode") (codes "encode", (refl, refl)))
      (other (codes "decode") (codes "decode", (refl, refl)))
      (other (codes "bits") (codes "bits", (refl, refl)))
      (other (codes "tag") (codes "tag", (refl, refl)))
