-- What is written of a new message before its last frame is no whole message.
use Rattle.std.proofs.Common.{◌≡◌, ◌∙◌, ℕ, ◌+◌, ◌≤◌, List, ◌++◌, length, Some, refl, sym, ap, arith}
use Rattle.frame_codec.specs.Written.{final_frame}
use Rattle.frame_codec.proofs.WrittenAgain.{length-final_frame}
use Rattle.header_codec.specs.declared.settings.Settings.{Settings}
use Rattle.keyring_trait.specs.Materials.{EncMaterialsValue}
use Rattle.keyring_trait.specs.Unlocking.{Unlocking}
use Rattle.body_format.specs.declared.verdicts.Verdict.TheVariants.{Going, Whole}
use Rattle.message_format.specs.Judgement.{judged}
use Rattle.message_format.proofs.Following.{fronts_go_on, judged_goes_on}
use Rattle.stream_seal.specs.Session.{SealingValue, held, under_of}
use Rattle.stream_seal.specs.Start.{message_of, drawn_id}
use Rattle.stream_seal.proofs.Feeding.{last_held}
use Rattle.esdk_encrypt.specs.Encrypt.{written_so_far}
use Rattle.esdk_encrypt.specs.Writing.{sealing_of_text}
use Rattle.esdk_encrypt.proofs.Sessions.{given_is}
use Rattle.reseal_core.specs.Front.{front_of}

module _ (m : EncMaterialsValue) (size : ℕ) (random text : List ℕ) (wide : 1 ≤ size) where
  abbrev v : SealingValue
  v = sealing_of_text m size (drawn_id random) text

  abbrev pub last : List ℕ
  last = final_frame (under_of v) (v.handed + 1) (held v)

  -- its last frame follows, which isn't empty
  pub followed : message_of m size (drawn_id random) text ≡ written_so_far m size (drawn_id random) text ++ last
  followed = last_held v wide refl ∙ ap (λ (g : List ℕ). g ++ last) (given_is m size (drawn_id random) text)

  some : 1 ≤ length last
  some = omega (arith, length-final_frame (under_of v) (v.handed + 1) (held v))

  pub front_goes_on : (settings : Settings) (answer : Unlocking) → (judged (message_of m size (drawn_id random) text) settings answer).verdict ≡ Whole → (judged (front_of (Some m) size random text) settings answer).verdict ≡ Going
  front_goes_on settings answer whole =
      fronts_go_on (λ b. judged b settings answer) (judged_goes_on settings answer) (written_so_far m size (drawn_id random) text) last
      (ap (λ (b : List ℕ). (judged b settings answer).verdict) (sym followed) ∙ whole) some
