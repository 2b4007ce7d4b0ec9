pub mod SpeakerLemmas
