-- The keys of a table that was read.
use Rattle.std.proofs.Common.{◌≡◌, ℕ, Bool, true, false, not, List, [], ◌∷◌, map, Option, Some, None, Ok, Err, string_bytes, String, Global, IsUtf8, refl, ap}
use Rattle.std.specs.Prelude.{◌&&◌, find, option_map, ok_or}
use Rattle.std.specs.List.{list_all}
use Rattle.std.specs.Str.{is_utf8}
use Rattle.std.proofs.lemmas.Str.{is_utf8-from_IsUtf8, IsUtf8-from_is_utf8}
use Rattle.toml.specs.Data.{Members}
use Rattle.toml.specs.Parse.{parse_document}
use Rattle.toml.specs.View.{members_view}
use Rattle.toml.proofs.Views.{Entry}
use Rattle.constraint_file_spec.specs.declared.fault.ConstraintFault.TheVariants.{NotToml, UnknownKey}
use Rattle.constraint_file_spec.specs.Values.{keys_of}
use Rattle.constraint_file_spec.specs.Refusals.{is_key, unknown_key}
use Rattle.constraint_file_spec.specs.ConstraintFile.{document_of}

pub all_keys_pass : (p : List ℕ → Bool) (es : List Entry) → list_all p (keys_of (members_view es)) ≡ list_all (λ k. p (string_bytes k)) (map (λ e. e.0) es)
all_keys_pass p [] = refl
all_keys_pass p (e ∷ es) = ap (λ (b : Bool). p (string_bytes e.0) && b) (all_keys_pass p es)

pub find_key : (p : List ℕ → Bool) (es : List Entry) → find p (keys_of (members_view es)) ≡ option_map string_bytes (find (λ k. p (string_bytes k)) (map (λ e. e.0) es))
find_key p [] = refl
find_key p (e ∷ es) = by (p (string_bytes e.0)) refl (find_key p es)
  where
    by : (b : Bool) → p (string_bytes e.0) ≡ b → find p (keys_of (members_view es)) ≡ option_map string_bytes (find (λ k. p (string_bytes k)) (map (λ e. e.0) es))
        → find p (keys_of (members_view (e ∷ es))) ≡ option_map string_bytes (find (λ k. p (string_bytes k)) (map (λ e. e.0) (e ∷ es)))
    by true h more = rw h
    by false h more = rw h more

-- the unknown key of the map's keys
pub unknown_key_found : (es : List Entry) → unknown_key (members_view es) ≡ option_map (λ k. UnknownKey (string_bytes k)) (find (λ k. not (is_key (string_bytes k))) (map (λ e. e.0) es))
unknown_key_found es = rw (find_key (λ name. not (is_key name)) es) (by (find (λ k. not (is_key (string_bytes k))) (map (λ e. e.0) es)))
  where
    by : (o : Option (String Global)) → option_map (λ name. UnknownKey name) (option_map string_bytes o) ≡ option_map (λ k. UnknownKey (string_bytes k)) o
    by None = refl
    by (Some k) = refl

pub document_read : (bytes : List ℕ) (t : Members) → IsUtf8 bytes → parse_document bytes ≡ Some t → ok_or (document_of bytes) NotToml ≡ Ok t
document_read bytes t text read = rw (is_utf8-from_IsUtf8 bytes text, read)

pub document_refused : (bytes : List ℕ) → (IsUtf8 bytes → parse_document bytes ≡ None) → ok_or (document_of bytes) NotToml ≡ Err NotToml
document_refused bytes refused = by (is_utf8 bytes) refl
  where
    by : (b : Bool) → is_utf8 bytes ≡ b → ok_or (document_of bytes) NotToml ≡ Err NotToml
    by true h = rw (h, refused (IsUtf8-from_is_utf8 bytes h))
    by false h = rw h
