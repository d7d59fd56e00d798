pub mod FragmentPart
