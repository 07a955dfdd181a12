pub mod SoundingsSample
