-- What has come of a text, piece by piece, and what it gives at its end.
use Rattle.std.proofs.Common.{◌≡◌, ℕ, ◌+◌, List, [], ◌++◌, length, take, drop, get_or, Option, Some, None, Ok, Err, refl, sym, ap, ◌∙◌, subst, arith}
use Rattle.std.specs.Option.{is_some}
use Rattle.std.specs.Prelude.{true, false}
use Rattle.std.proofs.Math.Seq.{drop-append_seam}
use Rattle.std.proofs.lemmas.List.{length-append, take-append-le, get_or_append_left}
use Rattle.code_spec.specs.declared.fault.EndFault.{EndFault}
use Rattle.code_spec.specs.declared.fault.EndFault.TheVariants as ends
use Rattle.code_spec.specs.Code.{CodeData, IsCode}
use Rattle.code_spec.specs.Checked.{IsCheckedCode}
use Rattle.code_spec.specs.PlainReading.{is_blank, IsDigit, IsChannelText, IsBadAt, IsPlainFront, bad_symbol}
use Rattle.command_steps.specs.declared.status.ChannelFault.TheVariants as faults
use Rattle.command_steps.specs.declared.status.Status.{Status}
use Rattle.command_steps.specs.declared.status.Status.TheVariants.{ChannelRefused}
use Rattle.command_steps.specs.Promise.{Decides}
use Rattle.block_codec.specs.TextDecoding.{TextHasCome, TakesText, took, bad_here, bad_before, EndsText}
use Rattle.block_codec.specs.declared.text_decoder.TextDecoder.{TextDecoder}
use Rattle.block_codec.specs.declared.fault.TextFault.TheVariants as texts
use Rattle.block_codec.specs.inside.Readers.{IsFrontOf}
use Rattle.block_codec.proofs.FileLaws.{nothing_gives_nothing}
use Rattle.code_commands.specs.Decode.{channel_fault, FileOf}
use Rattle.code_commands.specs.TextFile.{IsClean, IsCleanOrBad, HasCome}
use Rattle.code_commands.specs.declared.text_file.IncomingText.{IncomingText}
use Rattle.code_commands.proofs.DecodeLaws.{text_is_read, text_is_refused, end_is_refused}

-- ---- bad bytes

-- a bad byte stays the first, whatever comes behind it
pub bad_stays : (c : CodeData) (text more : List ℕ) (at : ℕ) → IsBadAt c text at → IsBadAt c (text ++ more) at
bad_stays c text more at bad =
    let same : get_or (text ++ more) at 0 ≡ get_or text at 0 = get_or_append_left text more 0 at bad.inside in
    let front : take at (text ++ more) ≡ take at text = take-append-le at text more (omega (arith, bad.inside)) in
    record {
      inside = omega (arith, bad.inside, length-append text more);
      before = subst (λ (list : List ℕ). IsChannelText c list) (sym front) bad.before;
      seen = ap (λ byte. is_blank byte) same ∙ bad.seen;
      bad = λ digit. bad.bad (subst (λ byte. IsDigit c byte) same digit);
    }

-- a piece with a bad byte, the first of all that has come
met_bad : (c : CodeData) (old new : TextDecoder) (text piece : List ℕ) (at : ℕ) → TakesText c old new text piece (Err (texts.BadSymbol at))
    → IsBadAt c (text ++ piece) at
met_bad c old new text piece at (bad_here n clean come bad) = bad
met_bad c old new text piece at (bad_before n bad same) = bad_stays c text piece at bad

took_well : (c : CodeData) (old new : TextDecoder) (text piece : List ℕ) → TakesText c old new text piece (Ok tt) → TextHasCome c new (text ++ piece)
took_well c old new text piece (took come clean) = come

-- ---- one piece more

pub is_none : (fault : Option ℕ) → is_some fault ≡ false → fault ≡ None
is_none None none = refl
is_none (Some at) none = absurd cc

module _ (c : CodeData) where
  -- nothing has come of a new text
  pub nothing_has_come : (incoming : IncomingText) → IsCode c → incoming.fault ≡ None → incoming.length ≡ 0 → incoming.file.items ≡ []
      → TextHasCome c incoming.decoder [] → HasCome c [] incoming
  nothing_has_come incoming code is none empty come =
      let gave = subst (λ (list : List ℕ). IsPlainFront c [] list) (sym empty) (nothing_gives_nothing c code) in
      record { counted = none; read = subst (λ (f : Option ℕ). IsCleanOrBad c [] incoming f) (sym is) (record { come = come; gave = gave }) }

  clean : (text : List ℕ) (incoming : IncomingText) → incoming.fault ≡ None → HasCome c text incoming → IsClean c text incoming
  clean text incoming none come = subst (λ (f : Option ℕ). IsCleanOrBad c text incoming f) none come.read

  bad_goes_on : (old new : IncomingText) (text piece : List ℕ) (fault : Option ℕ) → is_some fault ≡ true → IsCleanOrBad c text old fault
      → IsCleanOrBad c (text ++ piece) new fault
  bad_goes_on old new text piece None some bad = absurd cc
  bad_goes_on old new text piece (Some at) some bad = bad_stays c text piece at bad

  more_has_come : (old new : IncomingText) (text piece : List ℕ) (fault : Option ℕ) → new.length ≡ old.length + length piece → new.fault ≡ fault
      → HasCome c text old → IsCleanOrBad c (text ++ piece) new fault → HasCome c (text ++ piece) new
  more_has_come old new text piece fault count is come read = record {
    counted = omega (arith, count, come.counted, length-append text piece);
    read = subst (λ (f : Option ℕ). IsCleanOrBad c (text ++ piece) new f) (sym is) read;
  }

  -- a piece behind a bad byte
  pub passed_over : (old new : IncomingText) (text piece : List ℕ) → is_some old.fault ≡ true → new.fault ≡ old.fault → new.length ≡ old.length + length piece
      → HasCome c text old → HasCome c (text ++ piece) new
  passed_over old new text piece some same count come =
      more_has_come old new text piece old.fault count same come (bad_goes_on old new text piece old.fault some come.read)

  -- a piece with the first bad byte
  pub badly_taken : (old new : IncomingText) (text piece : List ℕ) (at : ℕ) → old.fault ≡ None → new.fault ≡ Some at → new.length ≡ old.length + length piece
      → ((text : List ℕ) → TextHasCome c old.decoder text → TakesText c old.decoder new.decoder text piece (Err (texts.BadSymbol at)))
      → HasCome c text old → HasCome c (text ++ piece) new
  badly_taken old new text piece at was is count takes come =
      more_has_come old new text piece (Some at) count is come (met_bad c old.decoder new.decoder text piece at (takes text (clean text old was come).come))

  -- a piece without a bad byte
  pub well_taken : (old new : IncomingText) (text piece : List ℕ) → old.fault ≡ None → new.fault ≡ None → new.length ≡ old.length + length piece
      → ((text : List ℕ) → TextHasCome c old.decoder text → TakesText c old.decoder new.decoder text piece (Ok tt))
      → ((text front : List ℕ) → TextHasCome c old.decoder text → IsPlainFront c text front
      → IsPlainFront c (text ++ piece) (front ++ drop (length old.file.items) new.file.items))
      → IsFrontOf old.file.items new.file.items → HasCome c text old → HasCome c (text ++ piece) new
  well_taken old new text piece was is count takes gives front come =
      let before = clean text old was come in
      let file : old.file.items ++ drop (length old.file.items) new.file.items ≡ new.file.items =
      ap (λ (list : List ℕ). old.file.items ++ drop (length old.file.items) list) front.is
      ∙ ap (λ (list : List ℕ). old.file.items ++ list) (drop-append_seam old.file.items front.more) ∙ sym front.is in
      let gave = subst (λ (list : List ℕ). IsPlainFront c (text ++ piece) list) file (gives text old.file.items before.come before.gave) in
      more_has_come old new text piece None count is come
      (record { come = took_well c old.decoder new.decoder text piece (takes text before.come); gave = gave })

  -- ---- the end

  module _ {X : Type 0} (view : X → List ℕ) (text : List ℕ) (incoming : IncomingText) where
    -- a text with a bad byte
    pub ends_bad : (at : ℕ) → incoming.fault ≡ Some at → HasCome c text incoming → Decides view (FileOf c text) (Err (ChannelRefused (faults.BadSymbol at)))
    ends_bad at is come =
        text_is_refused c text (ends.BadSymbol at) (ChannelRefused (faults.BadSymbol at)) view refl
        (bad_symbol at (subst (λ (f : Option ℕ). IsCleanOrBad c text incoming f) is come.read))

    -- a text whose end is well
    pub ends_well : (x : X) (count : ℕ) → view x ≡ incoming.file.items → IsCheckedCode c → incoming.fault ≡ None → HasCome c text incoming
        → (TextHasCome c incoming.decoder text → EndsText c text (Ok count)) → Decides view (FileOf c text) (Ok x)
    ends_well x count seen checked none come end =
        let all = clean text incoming none come in
        text_is_read c text incoming.file.items count view x seen checked all.gave (end all.come)

    -- a text that ends too soon
    pub ends_refused : (why : EndFault) (s : Status) → s ≡ ChannelRefused (channel_fault why) → incoming.fault ≡ None → HasCome c text incoming
        → (TextHasCome c incoming.decoder text → EndsText c text (Err why)) → Decides view (FileOf c text) (Err s)
    ends_refused why s told none come end = end_is_refused c text why s view told (end (clean text incoming none come).come)
